-- How times are kept: by processor the entries of alarms and deadlines, beside the table of each.
use Rattle.std.specs.Prelude.{◌≡◌, ◌<◌, ◌≤◌, ◌+◌, ◌*◌, ◌-◌, ◌^◌, ℕ, ◌==◌, ◌&&◌, List, [], ◌∷◌, length, map, slice_get, if◌then◌else◌, Option, Some, None}
use Rattle.nova_model.specs.Times as model
use Rattle.nova_model.specs.Times.{Times, goes_on}
use Rattle.nova_model.specs.State.{deadline_of}
use Rattle.nova_model.specs.declared.times.Alarm.{Alarm}
use Rattle.nova_model.specs.declared.times.AlarmState.{AlarmState}
use Rattle.nova_model.specs.declared.times.Deadline.{Deadline}
use Rattle.nova_model.specs.declared.times.Due.TheVariants as due
use Rattle.nova_times.specs.Processors.{HavePlaces, ProcessorState, processor_at}
use Rattle.nova_times.specs.Trees.{leaf}
use Rattle.nova_times.specs.declared.entry.Entry.{Entry}

-- the times; below which number execution contexts may have deadlines, and for how many more alarms there is room
pub record TimesState : Type 0 where
  pub all : Times
  pub contexts : ℕ
  pub spare : ℕ

-- an alarm rings at least once, its rings are apart, and its last moment is below 2^64
pub record IsAlarm (a : Alarm) : Type 0 where
  pub period : 0 < a.period
  pub count : 0 < a.count
  pub last : a.first + a.count * a.period < 2 ^ 64

-- the entry on a processor of an alarm that hasn't ended, and that of a deadline
abbrev pub alarm_leaf : ℕ → ℕ → Option AlarmState → Option Entry
alarm_leaf cpu n None = None
alarm_leaf cpu n (Some a) = if (a.alarm.cpu == cpu) && goes_on a then Some (record { at = a.next; due = due.Alarm n }) else None

abbrev pub deadline_leaf : ℕ → ℕ → Option Deadline → Option Entry
deadline_leaf cpu ec None = None
deadline_leaf cpu ec (Some d) = if d.cpu == cpu then Some (record { at = d.at; due = due.Deadline ec }) else None

-- an entry as the model has it
abbrev pub seen : Entry → model.Entry
seen e = record { moment = e.at; what = e.due }

-- of all, by number
abbrev pub alarm_leaves : ℕ → ℕ → List AlarmState → List (Option Entry)
alarm_leaves cpu n [] = []
alarm_leaves cpu n (a ∷ alarms) = alarm_leaf cpu n (Some a) ∷ alarm_leaves cpu (n + 1) alarms

abbrev pub deadline_leaves : ℕ → ℕ → List (Option Deadline) → List (Option Entry)
deadline_leaves cpu n [] = []
deadline_leaves cpu n (d ∷ deadlines) = deadline_leaf cpu n d ∷ deadline_leaves cpu (n + 1) deadlines

-- a deadline, if there is one, is of a processor
abbrev pub IsOf : ℕ → Option Deadline → Type 0
IsOf cpu d = (it : Deadline) → d ≡ Some it → it.cpu ≡ cpu

-- an alarm's moments stay below 2^64
pub record IsBounded (a : AlarmState) : Type 0 where
  pub last : a.next + (a.alarm.count - a.rings) * a.alarm.period < 2 ^ 64

-- a processor's entries are those that the tables say
pub record AreShown (t : Times) (cpu : ℕ) (xs ys : List (Option Entry)) : Type 0 where
  pub alarms : (n : ℕ) → leaf xs n ≡ alarm_leaf cpu n (slice_get t.alarms n)
  pub deadlines : (n : ℕ) → leaf ys n ≡ deadline_leaf cpu n (deadline_of t n)

pub record AreTimes (ps : List ProcessorState) (t : Times) (sources : List Alarm) : Type 0 where
  pub shown : (cpu : ℕ) → cpu < length ps → AreShown t cpu (processor_at ps cpu).alarms (processor_at ps cpu).deadlines
  pub bounded : (n : ℕ) (a : AlarmState) → slice_get t.alarms n ≡ Some a → IsBounded a
  pub listed : sources ≡ map (λ (a : AlarmState). a.alarm) t.alarms

-- there is room for the entries of all on each processor
pub record HasRoom (deadlines alarms contexts spare : ℕ) (ps : List ProcessorState) : Type 0 where
  pub places : HavePlaces (alarms + spare) contexts (length ps) ps
  pub each : deadlines ≤ contexts
  pub few : contexts ≤ 2 ^ 32
  pub few_alarms : alarms + spare ≤ 2 ^ 32
