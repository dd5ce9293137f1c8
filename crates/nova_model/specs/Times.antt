-- Time: the clock of each processor, the deadlines of execution contexts that wait, and alarms.
use Rattle.std.specs.Prelude.{ℕ, ◌+◌, ◌-◌, ◌==◌, ◌&&◌, ◌||◌, Bool, true, false, not, nat_le, nat_lt, List, [], ◌∷◌, ◌++◌, slice_get, slice_index, slice_set, Option, Some, None, option_map, option_and_then, if◌then◌else◌}
use Rattle.std.specs.List.{find, list_all}
use Rattle.nova_model.specs.Numbers.{EcId, SmId, CpuId}
use Rattle.nova_model.specs.declared.times.Alarm.{Alarm}
use Rattle.nova_model.specs.declared.times.AlarmState.{AlarmState}
use Rattle.nova_model.specs.declared.times.Deadline.{Deadline}
use Rattle.nova_model.specs.declared.times.Due.{Due}
use Rattle.nova_model.specs.declared.times.Due.TheVariants as due

-- by processor its clock, by number of an execution context its deadline or nothing, and the alarms by number
pub record Times : Type 0 where
  pub clocks : List ℕ
  pub deadlines : List (Option Deadline)
  pub alarms : List AlarmState

abbrev pub clock : Times → CpuId → ℕ
clock t cpu = slice_index t.clocks cpu

-- ENTRIES: what will be due on a processor, and at which moment

pub record Entry : Type 0 where
  pub moment : ℕ
  pub what : Due

-- an alarm that hasn't ended: it ends when it has rung as often as it was to
abbrev pub goes_on : AlarmState → Bool
goes_on a = nat_lt a.rings a.alarm.count

abbrev pub alarm_entry : CpuId → ℕ → AlarmState → Option Entry
alarm_entry cpu n a = if (a.alarm.cpu == cpu) && goes_on a then Some (record { moment = a.next; what = due.Alarm n }) else None

abbrev pub deadline_entry : CpuId → EcId → Option Deadline → Option Entry
deadline_entry cpu ec None = None
deadline_entry cpu ec (Some d) = if d.cpu == cpu then Some (record { moment = d.at; what = due.Deadline ec }) else None

abbrev pub before_rest : {T : Type 0} → Option T → List T → List T
before_rest None xs = xs
before_rest (Some x) xs = x ∷ xs

-- of alarms, and of execution contexts, that are numbered from `n` on
abbrev pub alarm_entries : CpuId → ℕ → List AlarmState → List Entry
alarm_entries cpu n [] = []
alarm_entries cpu n (a ∷ alarms) = before_rest (alarm_entry cpu n a) (alarm_entries cpu (n + 1) alarms)

abbrev pub deadline_entries : CpuId → EcId → List (Option Deadline) → List Entry
deadline_entries cpu n [] = []
deadline_entries cpu n (d ∷ deadlines) = before_rest (deadline_entry cpu n d) (deadline_entries cpu (n + 1) deadlines)

abbrev pub entries : Times → CpuId → List Entry
entries t cpu = alarm_entries cpu 0 t.alarms ++ deadline_entries cpu 0 t.deadlines

-- which goes first at one moment: an alarm before a deadline, then the lesser number
abbrev pub is_before : Due → Due → Bool
is_before (due.Alarm a) (due.Alarm b) = nat_lt a b
is_before (due.Alarm a) (due.Deadline b) = true
is_before (due.Deadline a) (due.Alarm b) = false
is_before (due.Deadline a) (due.Deadline b) = nat_lt a b

abbrev pub comes_before : Entry → Entry → Bool
comes_before a b = nat_lt a.moment b.moment || ((a.moment == b.moment) && is_before a.what b.what)

-- the entry before which no other comes
unfoldable pub next_entry : Times → CpuId → Option Entry
next_entry t cpu = find (λ a. list_all (λ b. not (comes_before b a)) (entries t cpu)) (entries t cpu)

-- the least moment of a processor
abbrev pub next_moment : Times → CpuId → Option ℕ
next_moment t cpu = option_map (λ e. e.moment) (next_entry t cpu)

-- it is due where its moment is at most the clock
abbrev pub if_due : ℕ → Entry → Option Due
if_due now e = if nat_le e.moment now then Some e.what else None

abbrev pub due_on : Times → CpuId → Option Due
due_on t cpu = option_and_then (if_due (clock t cpu)) (next_entry t cpu)

-- how many turns are left until something is due: none where it is
abbrev pub until_due : Times → CpuId → Option ℕ
until_due t cpu = option_map (λ moment. moment - clock t cpu) (next_moment t cpu)

-- HOW THEY CHANGE

abbrev pub ticked : Times → CpuId → Times
ticked t cpu = record t { clocks = slice_set t.clocks cpu (clock t cpu + 1) }

abbrev pub with_deadline : Times → EcId → Option Deadline → Times
with_deadline t ec d = record t { deadlines = slice_set t.deadlines ec d }

-- a context that waits to a deadline has it; a context that waits without had none before
abbrev pub awaited_in : List (Option Deadline) → EcId → Option Deadline → List (Option Deadline)
awaited_in deadlines ec None = deadlines
awaited_in deadlines ec (Some d) = slice_set deadlines ec (Some d)

abbrev pub awaited : Times → EcId → Option Deadline → Times
awaited t ec d = record t { deadlines = awaited_in t.deadlines ec d }

-- an alarm rings
abbrev pub rung_once : AlarmState → AlarmState
rung_once a = record a { next = a.next + a.alarm.period; rings = a.rings + 1 }

abbrev pub rung_in : List AlarmState → ℕ → Option AlarmState → List AlarmState
rung_in alarms n None = alarms
rung_in alarms n (Some a) = slice_set alarms n (rung_once a)

abbrev pub rung : Times → ℕ → Times
rung t n = record t { alarms = rung_in t.alarms n (slice_get t.alarms n) }

-- the semaphore of an alarm, and that of a deadline
abbrev pub alarm_sm : Option AlarmState → SmId
alarm_sm None = 0
alarm_sm (Some a) = a.alarm.sm

abbrev pub deadline_sm : Option Deadline → SmId
deadline_sm None = 0
deadline_sm (Some d) = d.sm

-- with one object more, which has no deadline
abbrev pub grown : Times → Times
grown t = record t { deadlines = t.deadlines ++ None ∷ [] }

-- an alarm more
abbrev pub with_alarm : Times → Alarm → Times
with_alarm t a = record t { alarms = t.alarms ++ record { alarm = a; next = a.first; rings = 0 } ∷ [] }
