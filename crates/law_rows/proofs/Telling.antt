-- Words of copies and of exits' messages, by their numbers.
use Rattle.std.proofs.Common.{◌≡◌, ℕ, ◌+◌, ◌%◌, ◌^◌, ◌<◌, ◌≤◌, true, false, List, if◌then◌else◌, refl, ◌∙◌, arith}
use Rattle.std.proofs.lemmas.Bool.Decides.{nat_tests}
use Rattle.rv_model.specs.Registers.{Registers, reg}
use Rattle.nova_range.specs.Mtds.{names}
use Rattle.nova_range.specs.declared.mtd.Mtd.{Mtd}
use Rattle.nova_range.specs.declared.mtd.TheConstants.Mtd.{QUAL, PC, LOW, HIGH}
use Rattle.nova_utcb.specs.Messages.{IsMessage, copied, exit_word, exited, is_given, word}
use Rattle.nova_utcb.proofs.Ruled.{get_kept, get_ruled}
use Rattle.nova_utcb.proofs.CopyLaws.{rule}

-- COPIES

copied_at : (from to : List ℕ) (i : ℕ) → IsMessage to → i < 128 → word (copied from to) i ≡ rule from i (word to i)
unfolding copied
copied_at from to i is within = get_ruled (rule from) to i 0 (omega (arith, is.size, within))

pub counts : (from to : List ℕ) → IsMessage to → word (copied from to) 0 ≡ word from 0
counts from to is = copied_at from to 0 is (omega arith)

pub given : (from to : List ℕ) (i : ℕ) → IsMessage to → 4 ≤ i → i < 4 + word from 0 % 2 ^ 16 → i < 128 → word (copied from to) i ≡ word from i
given from to i is first last within =
    let among : is_given from i ≡ true = grind (arith, nat_tests) in
    copied_at from to i is within ∙ rw among refl

stays : (from to : List ℕ) (i : ℕ) → is_given from i ≡ false → word (copied from to) i ≡ word to i
unfolding copied
stays from to i isnt = get_kept (rule from) to i (λ w. rw isnt refl)

pub below : (from to : List ℕ) (i : ℕ) → 1 ≤ i → i < 4 → word (copied from to) i ≡ word to i
below from to i first last = stays from to i (grind (arith, nat_tests))

pub behind : (from to : List ℕ) (i : ℕ) → 4 + word from 0 % 2 ^ 16 ≤ i → word (copied from to) i ≡ word to i
behind from to i past = stays from to i (grind (arith, nat_tests))

-- EXITS

module _ (mtd : Mtd) (q0 q1 : ℕ) (r : Registers) (m : List ℕ) where
  at : (i : ℕ) → IsMessage m → i < 128 → word (exited mtd q0 q1 r m) i ≡ exit_word mtd q0 q1 r i (word m i)
  unfolding exited
  at i is within = get_ruled (exit_word mtd q0 q1 r) m i 0 (omega (arith, is.size, within))

  pub head : IsMessage m → (word (exited mtd q0 q1 r m) 0 ≡ 36) × (word (exited mtd q0 q1 r m) 4 ≡ mtd.0) × (word (exited mtd q0 q1 r m) 8 ≡ 0)
  head is = (at 0 is (omega arith), at 4 is (omega arith), at 8 is (omega arith))

  pub qualifications : IsMessage m → (word (exited mtd q0 q1 r m) 5 ≡ (if names mtd QUAL then q0 else 0)) × (word (exited mtd q0 q1 r m) 6 ≡ (if names mtd QUAL then q1 else 0))
  qualifications is = (at 5 is (omega arith), at 6 is (omega arith))

  pub counter : IsMessage m → word (exited mtd q0 q1 r m) 7 ≡ (if names mtd PC then r.pc else 0)
  counter is = at 7 is (omega arith)

  pub low : (i : ℕ) → IsMessage m → 1 ≤ i → i ≤ 15 → word (exited mtd q0 q1 r m) (8 + i) ≡ (if names mtd LOW then reg r i else 0)
  low i is first last = at (8 + i) is (omega arith) ∙ grind (arith, nat_tests)

  pub high : (i : ℕ) → IsMessage m → 16 ≤ i → i ≤ 31 → word (exited mtd q0 q1 r m) (8 + i) ≡ (if names mtd HIGH then reg r i else 0)
  high i is first last = at (8 + i) is (omega arith) ∙ grind (arith, nat_tests)
