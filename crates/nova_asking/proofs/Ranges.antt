-- Numbers from one on, of which the first is passed over.
use Rattle.std.proofs.Common.{◌≡◌, ℕ, suc, ◌+◌, ◌-◌, ◌<◌, refl, arith}
use Rattle.std.specs.Prelude.{Bool, false}
use Rattle.std.specs.List.{list_any, range_with_len}

pub any_more : (p : ℕ → Bool) (i n : ℕ) → i < n → p i ≡ false → list_any p (range_with_len (i + 1) (n - (i + 1))) ≡ list_any p (range_with_len i (n - i))
any_more p i n less not =
    let e : n - i ≡ suc (n - (i + 1)) = omega arith in
    rw e (rw not refl)
