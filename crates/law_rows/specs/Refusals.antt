-- Deeds that are refusals.
use Rattle.std.specs.Prelude.{Bool, true, false}
use Rattle.nova_model.specs.declared.deed.Deed.{Deed}
use Rattle.nova_model.specs.declared.deed.Deed.TheVariants.{Refuses}

abbrev pub is_refusal : Deed → Bool
is_refusal (Refuses call status) = true
is_refusal other = false
