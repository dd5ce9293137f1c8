-- What a copy leaves, word by word; and the places of items.
use Rattle.std.proofs.Common.{◌≡◌, ◌<◌, ℕ, ◌+◌, ◌%◌, ◌^◌, ◌==◌, ◌||◌, ◌&&◌, nat_le, nat_lt, List, length, get_or, true, false, refl, ap, ◌∙◌, if◌then◌else◌, arith}
use Rattle.std.proofs.lemmas.Bool.Decides.{nat_tests}
use Rattle.nova_utcb.specs.Messages.{IsMessage, word, items, has_counts, counts_of, range_place, second_place, is_given, copied}
use Rattle.nova_utcb.proofs.Ruled.{length_ruled, get_ruled, get_kept, get_below, ruled_then, ruled_alike, is_ruled}

pub kept : (m : List ℕ) (i : ℕ) → has_counts m ≡ true → i < items m → (is_given m (range_place i) ≡ false) × (is_given m (second_place i) ≡ false)
kept m i has within = (grind (arith, nat_tests), grind (arith, nat_tests))

abbrev pub rule : List ℕ → ℕ → ℕ → ℕ
rule from i other = if is_given from i then word from i else other

pub given : (from to : List ℕ) (i : ℕ) → IsMessage to → i < 128 → is_given from i ≡ true → word (copied from to) i ≡ word from i
unfolding copied
given from to i is within e = get_ruled (rule from) to i 0 (omega (arith, is.size)) ∙ grind arith

pub stays : (from to : List ℕ) (i : ℕ) → is_given from i ≡ false → word (copied from to) i ≡ word to i
unfolding copied
stays from to i e = get_kept (rule from) to i (λ w. grind arith)

pub first : (from to : List ℕ) → IsMessage to → word (copied from to) 0 ≡ word from 0
first from to is = given from to 0 is (omega arith) refl

pub counts : (from to : List ℕ) → IsMessage to → counts_of (copied from to) ≡ counts_of from
counts from to is = let same = first from to is in grind (arith, same)

pub again : (from to : List ℕ) → copied from (copied from to) ≡ copied from to
unfolding copied
again from to = ruled_then (rule from) (rule from) to ∙ ruled_alike (λ i w. rule from i (rule from i w)) (rule from) to (λ i w. grind arith)

pub passed : (from between to : List ℕ) → IsMessage between → IsMessage to → copied (copied from between) to ≡ copied from to
unfolding copied
passed from between to a b = is_ruled (rule from) to (copied (copied from between) to) (length_ruled (rule (copied from between)) to) each where
  number : is_given (copied from between) ≡ is_given from
  number = ap (λ w. λ i. (i == 0) || (nat_le 4 i && nat_lt i (4 + w % 2 ^ 16))) (first from between a)

  each : (i d : ℕ) → i < length to → get_or (copied (copied from between) to) i d ≡ rule from i (get_or to i d)
  each i d within =
      let is = get_ruled (rule (copied from between)) to i d within in
      let same = given from between i a (omega (arith, within, b.size)) in
      let alike = ap (λ f. f i) number in
      grind (arith, is, same, alike)

pub message : (from to : List ℕ) → IsMessage from → IsMessage to → IsMessage (copied from to)
unfolding copied
message from to a b = record { size = length_ruled (rule from) to ∙ b.size; words = get_below (rule from) to (2 ^ 32) (omega arith) each } where
  each : (i : ℕ) → rule from i (get_or to i 0) < 2 ^ 32
  each i = let x = a.words i in let y = b.words i in grind (arith, x, y)
