-- What a pass over the events of a trace keeps of a source.
use Rattle.std.specs.Prelude.{ℕ, ◌+◌, ◌==◌, Bool, List, [], ◌∷◌, if◌then◌else◌}
use Rattle.nova_model.specs.declared.event.Event.{Event}
use Rattle.nova_model.specs.declared.times.Alarm.{Alarm}
use Rattle.nova_gsi.specs.declared.lines.Seen.{Seen}
use Rattle.nova_gsi.specs.Firings.{is_firing, worse}

abbrev pub more_if : Bool → ℕ → ℕ
more_if t n = if t then n + 1 else n

abbrev pub worse_if : Bool → Alarm → ℕ → ℕ → ℕ → ℕ
worse_if t s clock fired worst = if t then worse s clock fired worst else worst

-- after an event more
abbrev pub seen : Alarm → ℕ → Seen → Event → Seen
seen s n x e = record {
  clock = more_if (e.cpu == s.cpu) x.clock;
  fired = more_if (is_firing n e) x.fired;
  worst = worse_if (is_firing n e) s x.clock x.fired x.worst;
}

-- after more events, in order
abbrev pub seen_all : Alarm → ℕ → Seen → List Event → Seen
seen_all s n x [] = x
seen_all s n x (e ∷ es) = seen_all s n (seen s n x e) es
