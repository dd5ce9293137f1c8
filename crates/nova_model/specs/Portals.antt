-- Portals: the handler of a portal, where it begins, what it is told of exits, and the portal's identifier.
use Rattle.std.specs.Prelude.{ℕ, slice_get, Option, Some, None}
use Rattle.nova_model.specs.Numbers.{EcId, PtId}
use Rattle.nova_objects.specs.declared.object.Object.{Object}
use Rattle.nova_objects.specs.declared.object.Object.TheVariants.{Pt}
use Rattle.nova_range.specs.declared.mtd.Mtd.{Mtd}
use Rattle.nova_model.specs.State.{KernelState, entry}

abbrev pub handler_in : Option Object → EcId
handler_in (Some (Pt ec mtd ip)) = ec
handler_in other = 0

abbrev pub ip_in : Option Object → ℕ
ip_in (Some (Pt ec mtd ip)) = ip
ip_in other = 0

abbrev pub mtd_in : Option Object → ℕ
mtd_in (Some (Pt ec mtd ip)) = mtd
mtd_in other = 0

abbrev pub handler_of : KernelState → PtId → EcId
handler_of k pt = handler_in (slice_get k.objects pt)

abbrev pub ip_of : KernelState → PtId → ℕ
ip_of k pt = ip_in (slice_get k.objects pt)

abbrev pub descriptor : KernelState → PtId → Mtd
descriptor k pt = record { 0 = mtd_in (slice_get k.objects pt) }

abbrev pub number_in : Option ℕ → ℕ
number_in (Some number) = number
number_in None = 0

abbrev pub identifier : KernelState → PtId → ℕ
identifier k pt = number_in (entry (slice_get k.identifiers pt))
