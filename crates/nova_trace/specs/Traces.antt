-- Events in order, and events that are repeated.
use Rattle.std.specs.Prelude.{◌≡◌, ℕ, List, flat_map, replicate, Some, None}
use Rattle.std.specs.List.{last_or}
use Rattle.nova_model.specs.declared.event.Event.{Event}
use Rattle.nova_trace.specs.declared.trace.Repeated.{Repeated}

-- the events, and for how many there is room in all
pub record TraceView : Type 0 where
  pub items : List Event
  pub capacity : ℕ

-- the events that entries stand for
unfoldable pub events_of : List Repeated → List Event
events_of entries = flat_map (λ entry. replicate entry.count entry.event) entries

-- there is a last entry, and it is of this event
pub record IsLast (entries : List Repeated) (event : Event) : Type 0 where
  pub last : Repeated
  pub is : last_or None entries ≡ Some last
  pub same : last.event ≡ event
