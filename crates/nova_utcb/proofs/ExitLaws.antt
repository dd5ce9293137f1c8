-- What the message of an exit has, word by word, and that the state comes back from it.
use Rattle.std.proofs.Common.{◌≡◌, ◌<◌, ◌≤◌, ◌⊎◌, inl, inr, ℕ, ◌+◌, ◌-◌, ◌^◌, List, length, get_or, replicate, slice_set, ◌==◌, if◌then◌else◌, true, false, Ok, refl, sym, ap, ◌∙◌, arith}
use Rattle.std.proofs.lemmas.List.{get_or_default, length-set, length-replicate, get_or-replicate, get_or_past}
use Rattle.std.proofs.lemmas.Bool.{cases_lt}
use Rattle.std.proofs.lemmas.Bool.Decides.{nat_tests}
use Rattle.rv_model.specs.Registers.{Registers, reg}
use Rattle.nova_range.specs.declared.mtd.Mtd.{Mtd}
use Rattle.nova_range.specs.declared.mtd.TheConstants.Mtd.{PC, LOW, HIGH}
use Rattle.nova_utcb.specs.Files.{IsFile, FitsExit}
use Rattle.nova_utcb.specs.Messages.{IsMessage, word, counts_of, ruled, filled, exit_word, exited, groups_in, renewed, register_back, written_back}
use Rattle.nova_range.specs.Mtds.{names}
use Rattle.nova_utcb.proofs.Ruled.{length_ruled, set_ruled, get_ruled, get_kept, get_below, is_ruled}

-- a word of the message
at : (mtd : Mtd) (q0 q1 : ℕ) (r : Registers) (m : List ℕ) (i : ℕ) → IsMessage m → i < 128 → word (exited mtd q0 q1 r m) i ≡ exit_word mtd q0 q1 r i (word m i)
unfolding exited
at mtd q0 q1 r m i is within = get_ruled (exit_word mtd q0 q1 r) m i 0 (omega (arith, is.size, within))

pub exit_counts : (mtd : Mtd) (q0 q1 : ℕ) (r : Registers) (m : List ℕ) → IsMessage m → counts_of (exited mtd q0 q1 r m) ≡ Ok (36, 0)
exit_counts mtd q0 q1 r m is = let e : word (exited mtd q0 q1 r m) 0 ≡ 36 = at mtd q0 q1 r m 0 is (omega arith) in grind (arith, nat_tests, e)

pub low_stays : (mtd : Mtd) (q0 q1 : ℕ) (r : Registers) (m : List ℕ) (i : ℕ) → 1 ≤ i → i ≤ 3 → word (exited mtd q0 q1 r m) i ≡ word m i
unfolding exited
low_stays mtd q0 q1 r m i a b = get_kept (exit_word mtd q0 q1 r) m i (λ w. grind (arith, nat_tests))

pub high_stays : (mtd : Mtd) (q0 q1 : ℕ) (r : Registers) (m : List ℕ) (i : ℕ) → 40 ≤ i → word (exited mtd q0 q1 r m) i ≡ word m i
unfolding exited
high_stays mtd q0 q1 r m i a = get_kept (exit_word mtd q0 q1 r) m i (λ w. grind (arith, nat_tests))

groups : (mtd : Mtd) (q0 q1 : ℕ) (r : Registers) (m : List ℕ) → IsMessage m → groups_in (exited mtd q0 q1 r m) ≡ mtd
groups mtd q0 q1 r m is = ap (λ w. record { 0 = w }) (at mtd q0 q1 r m 4 is (omega arith))

low : (mtd : Mtd) (q0 q1 : ℕ) (r : Registers) (m : List ℕ) (i : ℕ) → IsMessage m → 1 ≤ i → i ≤ 15 → word (exited mtd q0 q1 r m) (8 + i) ≡ filled mtd LOW (reg r i)
low mtd q0 q1 r m i is a b = at mtd q0 q1 r m (8 + i) is (omega arith) ∙ grind (arith, nat_tests)

high : (mtd : Mtd) (q0 q1 : ℕ) (r : Registers) (m : List ℕ) (i : ℕ) → IsMessage m → 16 ≤ i → i ≤ 31 → word (exited mtd q0 q1 r m) (8 + i) ≡ filled mtd HIGH (reg r i)
high mtd q0 q1 r m i is a b = at mtd q0 q1 r m (8 + i) is (omega arith) ∙ grind (arith, nat_tests)

-- what is written back into registers that have what isn't named
comes_back : (mtd : Mtd) (q0 q1 : ℕ) (r s : Registers) (m : List ℕ) → IsMessage m → IsFile r → IsFile s → (names mtd PC ≡ false → s.pc ≡ r.pc) → (names mtd LOW ≡ false → s.x ≡ r.x) → (names mtd HIGH ≡ false → s.x ≡ r.x) → written_back (exited mtd q0 q1 r m) s ≡ r
unfolding written_back
comes_back mtd q0 q1 r s m is a b pc_as low_as high_as = both _ _ pc_is x_is where
  has : groups_in (exited mtd q0 q1 r m) ≡ mtd
  has = groups mtd q0 q1 r m is

  pc_is : renewed (exited mtd q0 q1 r m) PC 7 s.pc ≡ r.pc
  pc_is = let e : word (exited mtd q0 q1 r m) 7 ≡ filled mtd PC r.pc = at mtd q0 q1 r m 7 is (omega arith) in grind (arith, has, e, pc_as)

  each : (i d : ℕ) → i < length s.x → get_or r.x i d ≡ register_back (exited mtd q0 q1 r m) i (get_or s.x i d)
  each i d within =
      let w = get_or_default r.x i d 0 (omega (arith, within, a.size, b.size)) in
      let v = get_or_default s.x i d 0 within in
      grind (arith, nat_tests, has, low mtd q0 q1 r m i is, high mtd q0 q1 r m i is, w, v, a.zero, b.zero, low_as, high_as)

  x_is : ruled (register_back (exited mtd q0 q1 r m)) s.x ≡ r.x
  x_is = sym (is_ruled (register_back (exited mtd q0 q1 r m)) s.x r.x (a.size ∙ sym b.size) each)

  both : (p : ℕ) (xs : List ℕ) → p ≡ r.pc → xs ≡ r.x → record { pc = p; x = xs } ≡ r
  both p xs e f = ap (λ q. record { pc = q; x = xs }) e ∙ ap (λ ys. record { pc = r.pc; x = ys }) f

pub itself : (mtd : Mtd) (q0 q1 : ℕ) (r : Registers) (m : List ℕ) → IsMessage m → IsFile r → written_back (exited mtd q0 q1 r m) r ≡ r
itself mtd q0 q1 r m is a = comes_back mtd q0 q1 r r m is a a (λ _. refl) (λ _. refl) (λ _. refl)

pub whole : (mtd : Mtd) (q0 q1 : ℕ) (r s : Registers) (m : List ℕ) → IsMessage m → IsFile r → IsFile s → names mtd PC ≡ true → names mtd LOW ≡ true → names mtd HIGH ≡ true → written_back (exited mtd q0 q1 r m) s ≡ r
whole mtd q0 q1 r s m is a b p l h = comes_back mtd q0 q1 r s m is a b (λ e. cc) (λ e. cc) (λ e. cc)

pub zero_stays : (m : List ℕ) (r : Registers) → get_or (written_back m r).x 0 0 ≡ get_or r.x 0 0
unfolding written_back
zero_stays m r = get_kept (register_back m) r.x 0 (λ w. refl)

pub pc_unnamed : (m : List ℕ) (r : Registers) → names (groups_in m) PC ≡ false → (written_back m r).pc ≡ r.pc
unfolding written_back
pc_unnamed m r isnt = grind arith

pub low_unnamed : (m : List ℕ) (r : Registers) (i : ℕ) → names (groups_in m) LOW ≡ false → i < 16 → reg (written_back m r) i ≡ reg r i
unfolding written_back
low_unnamed m r i isnt small = let e = get_kept (register_back m) r.x i (λ w. grind (arith, nat_tests)) in grind (arith, e)

pub high_unnamed : (m : List ℕ) (r : Registers) (i : ℕ) → names (groups_in m) HIGH ≡ false → 16 ≤ i → reg (written_back m r) i ≡ reg r i
unfolding written_back
high_unnamed m r i isnt great = let e = get_kept (register_back m) r.x i (λ w. grind (arith, nat_tests)) in grind (arith, e)

pub born : IsMessage (replicate 128 0)
born = record { size = length-replicate {A = ℕ} 128 0; words = λ i. below 128 i } where
  below : (n i : ℕ) → get_or (replicate n 0) i 0 < 2 ^ 32
  below n i = by_end (cases_lt i n) where
    by_end : (i < n) ⊎ (n ≤ i) → get_or (replicate n 0) i 0 < 2 ^ 32
    by_end (inl within) = let e = get_or-replicate {A = ℕ} n i 0 0 within in omega (arith, e)
    by_end (inr past) = let e = get_or_past {X = ℕ} (replicate n 0) i 0 (omega (arith, past, length-replicate {A = ℕ} n 0)) in omega (arith, e)

pub exit_message : (mtd : Mtd) (q0 q1 : ℕ) (r : Registers) (m : List ℕ) → FitsExit mtd q0 q1 r → IsMessage m → IsMessage (exited mtd q0 q1 r m)
unfolding exited
exit_message mtd q0 q1 r m fits is = record { size = length_ruled (exit_word mtd q0 q1 r) m ∙ is.size; words = get_below (exit_word mtd q0 q1 r) m (2 ^ 32) (omega arith) each } where
  each : (i : ℕ) → exit_word mtd q0 q1 r i (get_or m i 0) < 2 ^ 32
  each i = let x = fits.registers (i - 8) in let y = is.words i in grind (arith, nat_tests, x, y, fits.descriptor, fits.first, fits.second, fits.counter)

pub set_message : (m : List ℕ) (i value : ℕ) → IsMessage m → value < 2 ^ 32 → IsMessage (slice_set m i value)
set_message m i value is small = record { size = length-set m i value ∙ is.size; words = each } where
  each : (k : ℕ) → word (slice_set m i value) k < 2 ^ 32
  each k =
      let e = ap (λ ws. word ws k) (set_ruled m i value) in
      let x = get_below (λ j w. if j == i then value else w) m (2 ^ 32) (omega arith) (λ j. let y = is.words j in grind (arith, y, small)) k in
      omega (arith, e, x)
