-- A processor as it is kept: its clock, and its entries by number of alarm and of execution context.
use Rattle.std.specs.Prelude.{◌≡◌, ◌<◌, ◌≤◌, ℕ, Bool, false, nat_le, List, [], length, map, slice_get, Option, Some, None, option_map}
use Rattle.nova_times.specs.Entries.{lesser}
use Rattle.nova_times.specs.Trees.{leaf, least_of}
use Rattle.nova_times.specs.declared.entry.Entry.{Entry}

pub record ProcessorState : Type 0 where
  pub clock : ℕ
  pub alarms : List (Option Entry)
  pub deadlines : List (Option Entry)

abbrev pub clocks_of : List ProcessorState → List ℕ
clocks_of ps = map (λ (p : ProcessorState). p.clock) ps

abbrev pub new_processor : ProcessorState
new_processor = record { clock = 0; alarms = []; deadlines = [] }

-- what comes next, and its moment
abbrev pub first_of : List (Option Entry) → List (Option Entry) → Option Entry
first_of alarms deadlines = lesser (least_of alarms) (least_of deadlines)

abbrev pub moment_of : Option Entry → Option ℕ
moment_of e = option_map (λ (x : Entry). x.at) e

abbrev pub least_on : ProcessorState → Option ℕ
least_on p = moment_of (first_of p.alarms p.deadlines)

abbrev pub is_due_by : ℕ → Option ℕ → Bool
is_due_by now None = false
is_due_by now (Some at) = nat_le at now

-- of all, by number
abbrev pub processor_of : Option ProcessorState → ProcessorState
processor_of None = new_processor
processor_of (Some p) = p

abbrev pub processor_at : List ProcessorState → ℕ → ProcessorState
processor_at ps cpu = processor_of (slice_get ps cpu)

-- the entries are the same, and there may be more room
pub record IsWider (old new : ProcessorState) : Type 0 where
  pub alarms : (n : ℕ) → leaf new.alarms n ≡ leaf old.alarms n
  pub deadlines : (n : ℕ) → leaf new.deadlines n ≡ leaf old.deadlines n
  pub alarm_room : length old.alarms ≤ length new.alarms
  pub deadline_room : length old.deadlines ≤ length new.deadlines

pub record AreWider (old new : List ProcessorState) : Type 0 where
  pub count : length new ≡ length old
  pub each : (cpu : ℕ) → IsWider (processor_at old cpu) (processor_at new cpu)

-- there is room for `alarms` alarms and for deadlines of `contexts` contexts
pub record HasPlaces (alarms contexts : ℕ) (p : ProcessorState) : Type 0 where
  pub of_alarms : alarms ≤ length p.alarms
  pub of_deadlines : contexts ≤ length p.deadlines

pub record HavePlaces (alarms contexts : ℕ) (before : ℕ) (ps : List ProcessorState) : Type 0 where
  pub each : (cpu : ℕ) → cpu < before → HasPlaces alarms contexts (processor_at ps cpu)

-- one processor has changed, with the same clock
pub record AreChanged (cpu : ℕ) (p : ProcessorState) (old new : List ProcessorState) : Type 0 where
  pub count : length new ≡ length old
  pub clocks : clocks_of new ≡ clocks_of old
  pub here : cpu < length old → processor_at new cpu ≡ p
  pub others : (other : ℕ) → (other ≡ cpu → ⊥) → processor_at new other ≡ processor_at old other
