-- Deadlines: what comes before one on its processor, whose turn sets it, and whose wait it ends.
use Rattle.std.specs.Prelude.{◌≡◌, ℕ, ◌+◌, ◌-◌, ◌≤◌, ◌<◌, ◌==◌, ◌⊎◌, true, nat_le, List, [], ◌∷◌, ◌++◌, Contains, length, filter, take, if◌then◌else◌, Some, None}
use Rattle.std.specs.List.{range_with_len}
use Rattle.nova_model.specs.Choice.{Candidate, next_to_act}
use Rattle.nova_model.specs.Deeds.{deed}
use Rattle.nova_model.specs.Numbers.{CpuId, EcId}
use Rattle.nova_model.specs.Runs.{after, run}
use Rattle.nova_model.specs.State.{KernelState, deadline_of}
use Rattle.nova_model.specs.Times.{Entry, Times, clock, comes_before, deadline_entries, due_on, entries}
use Rattle.nova_model.specs.declared.deed.Deed.TheVariants.{Blocks}
use Rattle.nova_model.specs.declared.event.Event.{Event}
use Rattle.nova_model.specs.declared.times.AlarmState.{AlarmState}
use Rattle.nova_model.specs.declared.times.Deadline.{Deadline}
use Rattle.nova_model.specs.declared.times.Due.TheVariants as due
use Rattle.law_turns.specs.Waiting.{IsAwaiting}
use Rattle.nova_gsi.specs.Firings.{moment}

-- the deadline of an execution context, among the entries of its processor
abbrev pub entry_of : EcId → Deadline → Entry
entry_of ec d = record { moment = d.at; what = due.Deadline ec }

-- how often an alarm is still to ring at a moment or before, and how often all those of a processor are
abbrev pub rings_left : ℕ → AlarmState → ℕ
rings_left at a = length (filter (λ j. nat_le (moment a.alarm j) at) (range_with_len a.rings (a.alarm.count - a.rings)))

abbrev pub all_rings_left : CpuId → ℕ → List AlarmState → ℕ
all_rings_left cpu at [] = 0
all_rings_left cpu at (a ∷ alarms) = (if a.alarm.cpu == cpu then rings_left at a else 0) + all_rings_left cpu at alarms

-- how many deadlines of its processor come before one
abbrev pub deadlines_before : Times → EcId → Deadline → ℕ
deadlines_before t ec d = length (filter (λ e. comes_before e (entry_of ec d)) (deadline_entries d.cpu 0 t.deadlines))

-- how many turns of its processor are due before that of a deadline: each ring of an alarm there at its moment or before, and each deadline that
-- comes before it
abbrev pub turns_before : Times → EcId → Deadline → ℕ
turns_before t ec d = all_rings_left d.cpu d.at t.alarms + deadlines_before t ec d

-- what is due on the processor of a deadline is that, or an entry that comes before it
pub record IsNoLater (t : Times) (ec : EcId) (d : Deadline) : Type 0 where
  pub entry : Entry
  pub there : Contains (entries t d.cpu) entry
  pub due : due_on t d.cpu ≡ Some entry.what
  pub order : (entry ≡ entry_of ec d) ⊎ (comes_before entry (entry_of ec d) ≡ true)

-- a context that had no deadline sets it in its own turn, on its processor: it begins to wait, until later than the turn ends
pub record SetsOwn (k : KernelState) (cpu : CpuId) (ec : EcId) (d : Deadline) : Type 0 where
  pub chosen : Candidate
  pub acts : next_to_act k cpu ≡ Some chosen
  pub itself : chosen.actor ≡ ec
  pub blocks : deed k ec ≡ Blocks d.sm (Some d)
  pub none : deadline_of k.times ec ≡ None
  pub processor : d.cpu ≡ cpu
  pub later : clock k.times cpu + 1 < d.at

-- one of the turns from a state on, its own, set a deadline, which stood after that turn and after each since
pub record HasStood (k : KernelState) (turns : List CpuId) (ec : EcId) (d : Deadline) : Type 0 where
  pub before : List CpuId
  pub cpu : CpuId
  pub since : List CpuId
  pub parts : turns ≡ before ++ cpu ∷ since
  pub sets : SetsOwn (run k before) cpu ec d
  pub stands : (n : ℕ) → deadline_of (run (after (run k before) cpu) (take n since)).times ec ≡ Some d

-- the context that a deadline's turn names had it before, its moment had come, and it waited to it; after the turn it has none
pub record HadDeadline (k : KernelState) (cpu : CpuId) (e : Event) : Type 0 where
  pub deadline : Deadline
  pub had : deadline_of k.times e.ec ≡ Some deadline
  pub waited : IsAwaiting k.contexts e.ec deadline
  pub processor : deadline.cpu ≡ cpu
  pub semaphore : e.a ≡ deadline.sm
  pub came : deadline.at ≤ clock k.times cpu
  pub over : deadline_of (after k cpu).times e.ec ≡ None
