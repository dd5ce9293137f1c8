-- A side with processors of its own: nobody else runs there, and nothing else is to come there.
-- `C` says which processors are the side's, `S` which domains and `P` which objects.
use Rattle.std.specs.Prelude.{◌≡◌, ◌⊎◌, ℕ, Bool, true, false, not, if◌then◌else◌, List, [], ◌∷◌, IsSome, filter, map, nat_lt, slice_get, Option, Some, None}
use Rattle.nova_objects.specs.declared.object.EcKind.{EcKind}
use Rattle.nova_objects.specs.declared.object.Object.TheVariants.{Ec, Sc}
use Rattle.nova_model.specs.Edges.{state_in}
use Rattle.nova_model.specs.Runs.{after, run, trace}
use Rattle.nova_model.specs.State.{KernelState, budget_at, deadline_of}
use Rattle.nova_model.specs.Times.{alarm_sm}
use Rattle.nova_model.specs.declared.context.State.{State}
use Rattle.nova_model.specs.declared.context.State.TheVariants.{Blocked, Dead, Parked}
use Rattle.nova_model.specs.declared.event.Event.{Event}
use Rattle.nova_model.specs.declared.event.EventKind.{EventKind}
use Rattle.nova_model.specs.declared.event.EventKind.TheVariants.{Gone, Irq, Made}
use Rattle.nova_model.specs.declared.times.AlarmState.{AlarmState}
use Rattle.law_forest.specs.Made.{MayCreate}
use Rattle.law_turns.specs.Budgets.{left_in, stamp_in}
use Rattle.law_integrity.specs.Confined.{IsMember, Of}
use Rattle.law_flow.specs.Flow.{AreAlike, own_bytes, own_deeds}

-- AT HOME

abbrev pub is_still : Option State → Bool
is_still (Some Parked) = true
is_still (Some Dead) = true
is_still (Some (Blocked sm)) = true
is_still other = false

-- an execution context is parked, dead or blocked, and no deadline ends that
pub record IsStill (k : KernelState) (n : ℕ) : Type 0 where
  pub state : is_still (state_in k.contexts n) ≡ true
  pub deadline : deadline_of k.times n ≡ None

-- The side has these processors: its execution contexts are on them, the scheduling contexts that are bound to those are of its part, and at semaphores of its part no alarm of another processor rings.
-- Alarms of these processors ring at whatever semaphores: whom they wake of others is on none of these processors.
pub record HasHome (k : KernelState) (S P C : ℕ → Type 0) : Type 0 where
  pub contexts : (n pd cpu : ℕ) (kind : EcKind) (event : ℕ) → slice_get k.objects n ≡ Some (Ec pd cpu kind event) → S pd → C cpu
  pub schedules : (n donor cpu priority quantum : ℕ) → slice_get k.objects n ≡ Some (Sc donor cpu priority quantum) → IsMember k S donor → P n
  pub rings : (n : ℕ) (a : AlarmState) → slice_get k.times.alarms n ≡ Some a → P a.alarm.sm → C a.alarm.cpu

-- It is at home: whoever else is on its processors is still.
pub record IsAtHome (k : KernelState) (S P C : ℕ → Type 0) : Type 0 where
  pub has : HasHome k S P C
  pub strangers : (n pd cpu : ℕ) (kind : EcKind) (event : ℕ) → slice_get k.objects n ≡ Some (Ec pd cpu kind event) → C cpu → S pd ⊎ IsStill k n

-- The processors are divided: none of the others' execution contexts is on the side's. That stays so where the others hold no right to create, in any domain.
pub record IsDivided (k : KernelState) (S T P C : ℕ → Type 0) : Type 0 where
  pub has : HasHome k S P C
  pub others : (n pd cpu : ℕ) (kind : EcKind) (event : ℕ) → slice_get k.objects n ≡ Some (Ec pd cpu kind event) → T pd → C cpu → ⊥
  pub creates : (pd : ℕ) → T pd → MayCreate k pd → ⊥

-- it is at home before each of these turns
abbrev pub AreAtHome : (ℕ → Bool) → (ℕ → Bool) → (ℕ → Bool) → KernelState → List ℕ → Type 0
AreAtHome S P C k [] = Unit {0}
AreAtHome S P C k (cpu ∷ turns) = IsAtHome k (Of S) (Of P) (Of C) × AreAtHome S P C (after k cpu) turns

-- its execution contexts are on these processors
abbrev pub AreOn : KernelState → (ℕ → Type 0) → (ℕ → Type 0) → Type 0
AreOn k S C = (n pd cpu : ℕ) (kind : EcKind) (event : ℕ) → slice_get k.objects n ≡ Some (Ec pd cpu kind event) → S pd → C cpu

-- they are before each of these turns, and after the last: it makes none elsewhere
abbrev pub StayOn : (ℕ → Bool) → (ℕ → Bool) → KernelState → List ℕ → Type 0
StayOn S C k [] = AreOn k (Of S) (Of C)
StayOn S C k (cpu ∷ turns) = AreOn k (Of S) (Of C) × StayOn S C (after k cpu) turns

-- THE SAME TIMES

-- of a scheduling context what is left of its quantum, and its stamp
abbrev pub left_at : KernelState → ℕ → Option ℕ
left_at k sc = left_in (budget_at k sc)

abbrev pub stamp_at : KernelState → ℕ → ℕ
stamp_at k sc = stamp_in (budget_at k sc)

-- In two states the side's processors have the same clocks and alarms, and its scheduling contexts the same turns left, and stamps in the same order.
pub record AreTimed (k l : KernelState) (P C : ℕ → Type 0) : Type 0 where
  pub clocks : (cpu : ℕ) → C cpu → slice_get l.times.clocks cpu ≡ slice_get k.times.clocks cpu
  pub alarms : (n : ℕ) (a : AlarmState) → slice_get k.times.alarms n ≡ Some a → C a.alarm.cpu → slice_get l.times.alarms n ≡ Some a
  pub same_alarms : (n : ℕ) (a : AlarmState) → slice_get l.times.alarms n ≡ Some a → C a.alarm.cpu → slice_get k.times.alarms n ≡ Some a
  pub left : (n : ℕ) → P n → left_at l n ≡ left_at k n
  pub order : (m n : ℕ) → P m → P n → IsSome (budget_at k m) → IsSome (budget_at k n) → nat_lt (stamp_at l m) (stamp_at l n) ≡ nat_lt (stamp_at k m) (stamp_at k n)

-- an event but for numbers of ranges: of a range that is made or gone, and of the parent of one that is made
abbrev pub number_told : EventKind → ℕ → ℕ
number_told Made n = 0
number_told Gone n = 0
number_told other n = n

abbrev pub parent_told : EventKind → ℕ → ℕ
parent_told Made n = 0
parent_told other n = n

abbrev pub unnumbered_event : Event → Event
unnumbered_event e = record e { a = number_told e.kind e.a; b = parent_told e.kind e.b }

-- of a trace the events on these processors
abbrev pub events_on : (ℕ → Bool) → List Event → List Event
events_on C events = map unnumbered_event (filter (λ (e : Event). C e.cpu) events)

-- whether an alarm rings at a semaphore of the side's part; and that all alarms of these processors do
abbrev pub rings_within : (ℕ → Bool) → KernelState → ℕ → Bool
rings_within P k n = P (alarm_sm (slice_get k.times.alarms n))

abbrev pub RingWithin : KernelState → (ℕ → Type 0) → (ℕ → Type 0) → Type 0
RingWithin k P C = (n : ℕ) (a : AlarmState) → slice_get k.times.alarms n ≡ Some a → C a.alarm.cpu → P a.alarm.sm

-- an event but for what an alarm that is none of these finds at its semaphore: whom it wakes, and whether the counter is at its greatest
abbrev pub rings_without : (ℕ → Bool) → EventKind → ℕ → Bool
rings_without A Irq n = not (A n)
rings_without A other n = false

abbrev pub unfound : (ℕ → Bool) → Event → Event
unfound A e = if rings_without A e.kind e.a then record e { ec = 0; b = 0 } else e

-- Two runs, of these turns from these states, come to the same part and the same times of the side's, by the same deeds and bytes of it, and the same events on its processors; but of an alarm of these at another's semaphore
-- not what it finds there.
pub record AreAlikeAtHome (k l : KernelState) (turns others : List ℕ) (S P C : ℕ → Bool) : Type 0 where
  pub part : AreAlike (run k turns) (run l others) (Of S) (Of P)
  pub times : AreTimed (run k turns) (run l others) (Of P) (Of C)
  pub deeds : own_deeds S l others ≡ own_deeds S k turns
  pub bytes : own_bytes S l others ≡ own_bytes S k turns
  pub told : map (unfound (rings_within P k)) (events_on C (trace l others)) ≡ map (unfound (rings_within P k)) (events_on C (trace k turns))
  pub events : RingWithin k (Of P) (Of C) → events_on C (trace l others) ≡ events_on C (trace k turns)
