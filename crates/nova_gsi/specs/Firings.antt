-- The firings of a source in a trace: when each was to come, when it came, and how late.
use Rattle.std.specs.Prelude.{ℕ, ◌+◌, ◌*◌, ◌-◌, ◌^◌, ◌<◌, ◌≤◌, ◌==◌, ◌&&◌, Bool, true, false, nat_le, nat_lt, max, List, [], ◌∷◌, length, filter, take, if◌then◌else◌, Some, None}
use Rattle.std.specs.List.{range_with_len}
use Rattle.nova_model.specs.Choice.{in_front}
use Rattle.nova_model.specs.Boot.{Scenario}
use Rattle.nova_model.specs.Numbers.{CpuId, SmId}
use Rattle.nova_model.specs.Sources.{Source}
use Rattle.nova_model.specs.declared.times.AlarmState.{AlarmState}
use Rattle.nova_model.specs.declared.event.Event.{Event}
use Rattle.nova_model.specs.declared.event.EventKind.{EventKind}
use Rattle.nova_model.specs.declared.event.EventKind.TheVariants.{Irq, Late}
use Rattle.nova_model.specs.declared.times.Alarm.{Alarm}
use Rattle.nova_gsi.specs.declared.source_line.SourceLine.{SourceLine}

-- the moments at which a source is to fire: its first, and then one after each period, `count` in all
abbrev pub moment : Alarm → ℕ → ℕ
moment s j = s.first + j * s.period

-- how many of them have come at a clock
abbrev pub moments_until : Alarm → ℕ → ℕ
moments_until s now = length (filter (λ j. nat_le (moment s j) now) (range_with_len 0 s.count))

-- a firing of source `n` is an irq event of the alarm of that number
abbrev pub is_irq : EventKind → Bool
is_irq Irq = true
is_irq other = false

abbrev pub is_firing : ℕ → Event → Bool
is_firing n e = is_irq e.kind && (e.a == n)

abbrev pub is_on : CpuId → Event → Bool
is_on cpu e = e.cpu == cpu

abbrev pub count_of : (Event → Bool) → List Event → ℕ
count_of p trace = length (filter p trace)

-- the clock of a processor at a place in a trace: how many of the earlier events are of it
abbrev pub clock_at : List Event → CpuId → ℕ → ℕ
clock_at trace cpu place = count_of (is_on cpu) (take place trace)

-- how many firings come before a place
abbrev pub fired_before : List Event → ℕ → ℕ → ℕ
fired_before trace n place = count_of (is_firing n) (take place trace)

-- the places of the firings, in order, among events that are numbered from `place` on
abbrev pub firings_from : ℕ → ℕ → List Event → List ℕ
firings_from n place [] = []
firings_from n place (e ∷ es) = in_front (if is_firing n e then Some place else None) (firings_from n (place + 1) es)

abbrev pub firings : List Event → ℕ → List ℕ
firings trace n = firings_from n 0 trace

abbrev pub fired : List Event → ℕ → ℕ
fired trace n = length (firings trace n)

-- how late firing `j` is at a place: 0 where its moment is still to come
abbrev pub delay : Alarm → List Event → ℕ → ℕ → ℕ
delay s trace j place = clock_at trace s.cpu place - moment s j

-- of firings that are numbered from `j` on, by their places: those that the source was to have
abbrev pub delays_from : Alarm → List Event → ℕ → List ℕ → List ℕ
delays_from s trace j [] = []
delays_from s trace j (place ∷ places) = in_front (if nat_lt j s.count then Some (delay s trace j place) else None) (delays_from s trace (j + 1) places)

abbrev pub delays : Alarm → List Event → ℕ → List ℕ
delays s trace n = delays_from s trace 0 (firings trace n)

-- the greatest of them, 0 where there is none
abbrev pub greatest : List ℕ → ℕ
greatest [] = 0
greatest (x ∷ xs) = max x (greatest xs)

abbrev pub worst : Alarm → List Event → ℕ → ℕ
worst s trace n = greatest (delays s trace n)

-- the worst so far, with a moment that comes at a clock
abbrev pub worse : Alarm → ℕ → ℕ → ℕ → ℕ
worse s clock fired worst = if nat_lt fired s.count then max worst (clock - moment s fired) else worst

-- THE TABLE

unfoldable pub line : Alarm → List Event → ℕ → SourceLine
line s trace n = record { fired = fired trace n; worst = worst s trace n }

-- of sources that are numbered from `n` on
abbrev pub lines_from : List Event → ℕ → List Alarm → List SourceLine
lines_from trace n [] = []
lines_from trace n (s ∷ sources) = line s trace n ∷ lines_from trace (n + 1) sources

abbrev pub table : List Alarm → List Event → List SourceLine
table sources trace = lines_from trace 0 sources

-- the numbers of a source
pub record IsSource (s : Alarm) : Type 0 where
  pub period : 1 ≤ s.period
  pub count : 1 ≤ s.count
  pub last : s.first + s.count * s.period < 2 ^ 64

-- an event of what was due: a deadline, or an alarm
abbrev pub was_due : EventKind → Bool
was_due Irq = true
was_due Late = true
was_due other = false

-- the sources of a scenario, as alarms: the semaphore of each is the next object, after the three of the root
abbrev pub alarms_from : SmId → List Source → List Alarm
alarms_from sm [] = []
alarms_from sm (s ∷ sources) = record { cpu = s.cpu; sm = sm; first = s.first; period = s.period; count = s.count } ∷ alarms_from (sm + 1) sources

abbrev pub alarms_of : Scenario → List Alarm
alarms_of scenario = alarms_from 3 scenario.sources

-- an alarm that hasn't rung
abbrev pub unrung : Alarm → AlarmState
unrung a = record { alarm = a; next = a.first; rings = 0 }
