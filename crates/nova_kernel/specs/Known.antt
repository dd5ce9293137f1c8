-- The last choice of each processor, while all turns go where they went.
use Rattle.std.specs.Prelude.{if◌then◌else◌, nat_lt, List, Option, Some, None, replicate, slice_set}
use Rattle.nova_model.specs.declared.event.Event.{Event}
use Rattle.nova_model.specs.declared.event.EventKind.{EventKind}
use Rattle.nova_model.specs.declared.event.EventKind.TheVariants.{Step}
use Rattle.nova_model.specs.declared.event.Turn.{Turn}
use Rattle.nova_model.specs.declared.event.Turn.TheVariants.{Stepped, Idle}
use Rattle.nova_choice.specs.declared.choice.Chosen.{Chosen}

-- An instruction that went on leaves all of it, and its own choice is known then. Any other deed may lead turns elsewhere.
abbrev pub known_by : EventKind → Event → List (Option Chosen) → List (Option Chosen)
known_by Step e known = if nat_lt e.cpu 8 then slice_set known e.cpu (Some (record { sc = e.sc; actor = e.ec })) else known
known_by other e known = replicate 8 None

abbrev pub known_after : Turn → List (Option Chosen) → List (Option Chosen)
known_after Idle known = known
known_after (Stepped e) known = known_by e.kind e known
