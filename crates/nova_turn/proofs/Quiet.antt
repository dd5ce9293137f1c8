-- A kernel is quiet where each processor is idle.
use Rattle.std.proofs.Common.{◌≡◌, ℕ, suc, ◌+◌, ◌-◌, ◌<◌, refl, arith}
use Rattle.std.specs.Prelude.{Bool, true, false, Option, Some, None, is_some, is_none}
use Rattle.std.specs.List.{list_all, range_with_len}

pub none_there : {T : Type 0} → (o : Option T) → is_some o ≡ false → is_none o ≡ true
none_there (Some x) h = cc
none_there None h = refl

-- the processors after an idle one
pub quiet_more : (p : ℕ → Bool) (cpu cpus : ℕ) → cpu < cpus → p cpu ≡ true →
    list_all p (range_with_len (cpu + 1) (cpus - (cpu + 1))) ≡ list_all p (range_with_len cpu (cpus - cpu))
quiet_more p cpu cpus h idle =
    let e : cpus - cpu ≡ suc (cpus - (cpu + 1)) = omega arith in
    rw e (rw idle refl)
