-- Deeds that are inputs for none.
use Rattle.std.proofs.Common.{◌≡◌, ℕ, List, ap, sym}
use Rattle.std.specs.Prelude.{Bool, true, false, Option}
use Rattle.std.specs.Bool.{OnFalse}
use Rattle.nova_model.specs.State.{KernelState}
use Rattle.nova_deeds.specs.StirCounts.{risen_from}
use Rattle.nova_deeds.proofs.StirTables.{risen_calm}

-- where none is stirred nothing changes
abbrev pub with_guests : KernelState → List (Option ℕ) → KernelState
with_guests k counts = record k { stirs = record k.stirs { guests = counts } }

pub none_rise : (k : KernelState) (t : Bool) (stirs : ℕ → ℕ → Bool) (ec : ℕ) → OnFalse t ((e g : ℕ) → stirs e g ≡ false) → t ≡ false →
    k ≡ with_guests k (risen_from (stirs ec) 0 k.stirs.guests)
none_rise k true stirs ec calm is = absurd cc
none_rise k false stirs ec calm is = ap (with_guests k) (sym (risen_calm (stirs ec) 0 k.stirs.guests (λ m h. calm ec m)))
