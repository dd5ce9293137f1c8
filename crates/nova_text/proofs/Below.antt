-- A test that is computed for each number below a bound.
use Rattle.std.proofs.Common.{◌≡◌, refl, ℕ, zero, suc, ◌<◌, Bool, true, false, ◌&&◌, arith}
use Rattle.std.specs.Prelude.{nat_eq}
use Rattle.std.proofs.lemmas.Bool.Decides.{nat_tests}

-- all numbers below a bound pass
abbrev pub all_below : (ℕ → Bool) → ℕ → Bool
all_below p zero = true
all_below p (suc n) = p n && all_below p n

pub each_below : (p : ℕ → Bool) (n r : ℕ) → all_below p n ≡ true → r < n → p r ≡ true
each_below p zero r all less = absurd (omega arith)
each_below p (suc n) r all less = go (nat_eq r n) refl (each_below p n r tail) where
  tail : all_below p n ≡ true
  tail = grind arith

  go : (b : Bool) → nat_eq r n ≡ b → (r < n → p r ≡ true) → p r ≡ true
  go true is rest = let same : r ≡ n = grind (arith, nat_tests) in grind arith
  go false is rest = rest (grind (arith, nat_tests))
