-- Turns that are plain steps, and a turn that may have come after them.
use Rattle.std.specs.Prelude.{◌≡◌, ℕ, List, [], ◌∷◌, replicate, Option, Some, None, Result, Ok, Err}
use Rattle.law_leases.specs.Advances.{step_of}
use Rattle.nova_model.specs.Choice.{Candidate}
use Rattle.nova_model.specs.declared.event.Event.{Event}
use Rattle.nova_model.specs.declared.event.Turn.{Turn}
use Rattle.nova_model.specs.declared.event.Turn.TheVariants.{Stepped, Idle}

-- an event `count` times; none where there is no event
abbrev pub repeated : Option Event → ℕ → List Event
repeated (Some e) count = replicate count e
repeated None count = []

-- these are the events of `count` turns of a processor, each a plain step of the execution context that acts, paid by the scheduling context that is
-- chosen; where the processor is idle there are no turns
abbrev pub ArePlainSteps : Option Candidate → ℕ → ℕ → List Event → Type 0
ArePlainSteps (Some c) cpu count events = events ≡ replicate count (step_of cpu c)
ArePlainSteps None cpu count events = count ≡ 0

-- the event of the turn that came after plain steps: none where it was not tried, where it was refused, and where the processor was idle
abbrev pub last_events : {E : Type 0} → Option (Result Turn E) → List Event
last_events None = []
last_events (Some (Err refused)) = []
last_events (Some (Ok Idle)) = []
last_events (Some (Ok (Stepped event))) = event ∷ []
