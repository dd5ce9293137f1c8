-- What is known of the choices of processors.
use Rattle.std.specs.Prelude.{◌≡◌, List, Option, Some, None, slice_get}
use Rattle.std.specs.List.{AllByRecursion}
use Rattle.nova_model.specs.State.{KernelState}
use Rattle.nova_choice.specs.Schedules.{actor_of}
use Rattle.nova_choice.specs.declared.choice.Chosen.{Chosen}

-- what is known of a processor, where anything is: the context that acts in the turns of a scheduling context
abbrev pub IsKnown : KernelState → Option Chosen → Type 0
IsKnown k None = Unit {0}
IsKnown k (Some c) = actor_of k.contexts (slice_get k.objects c.sc) ≡ Some c.actor

-- and of all processors
abbrev pub AreKnown : KernelState → List (Option Chosen) → Type 0
AreKnown k known = AllByRecursion (IsKnown k) known
