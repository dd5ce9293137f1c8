-- How long a runnable scheduling context waits, in turns of its processor: what is ahead of it in its ring, and where turns go. A ring is the scheduling contexts of one
-- processor and priority, in the order of their stamps.
use Rattle.std.specs.Prelude.{◌≡◌, ◌≢◌, ℕ, ◌+◌, ◌-◌, ◌*◌, ◌≤◌, ◌<◌, ◌==◌, ◌&&◌, Bool, true, false, not, nat_lt, if◌then◌else◌, List, [], ◌∷◌, slice_get, Option, Some, None, is_some, option_map}
use Rattle.nova_objects.specs.declared.object.Object.{Object}
use Rattle.nova_objects.specs.declared.object.Object.TheVariants.{Sc}
use Rattle.nova_model.specs.Choice.{Candidate, actor, next_to_act}
use Rattle.nova_model.specs.Edges.{acts, state_in}
use Rattle.nova_model.specs.Runs.{after, run}
use Rattle.nova_model.specs.State.{KernelState, budget_at}
use Rattle.nova_model.specs.Times.{due_on}
use Rattle.nova_model.specs.declared.budget.Budget.{Budget}
use Rattle.nova_model.specs.declared.context.State.{State}
use Rattle.nova_model.specs.declared.context.State.TheVariants.{Fresh, Ready, Exiting, Granting, Replying, Revoking}

-- SCHEDULING CONTEXTS

-- object `sc` is this scheduling context, of execution context `ec`, with budget `b`
pub record IsSchedule (k : KernelState) (sc ec cpu priority quantum : ℕ) (b : Budget) : Type 0 where
  pub object : slice_get k.objects sc ≡ Some (Sc ec cpu priority quantum)
  pub budget : budget_at k sc ≡ Some b

-- the turns of an execution context lead, along donation, to a context that acts
abbrev pub MayRun : KernelState → ℕ → Type 0
MayRun k ec = acts k.contexts (actor k ec) ≡ true

-- a deadline or an alarm of a processor is due, so that none acts in its next turn
abbrev pub is_due : KernelState → ℕ → Bool
is_due k cpu = is_some (due_on k.times cpu)

-- before each of these turns that is the processor's, and in which nothing is due, the execution context may run
abbrev pub StaysRunnable : KernelState → ℕ → ℕ → List ℕ → Type 0
StaysRunnable k cpu ec [] = Unit {0}
StaysRunnable k cpu ec (by ∷ turns) = (by ≡ cpu → is_due k by ≡ false → MayRun k ec) × StaysRunnable (after k by) cpu ec turns

-- the execution context to which the turns of `ec` lead acts in none of these turns
abbrev pub Awaits : KernelState → ℕ → List ℕ → Type 0
Awaits k ec [] = Unit {0}
Awaits k ec (by ∷ turns) = (option_map (λ (c : Candidate). c.actor) (next_to_act k by) ≢ Some (actor k ec)) × Awaits (after k by) ec turns

-- AHEAD IN THE RING

-- for how many turns a scheduling context with this budget pays before its stamp is renewed: those left of its quantum, or 1
abbrev pub turns_left : Budget → ℕ
turns_left b = b.left - 1 + 1

-- the object is a scheduling context of this processor and priority
abbrev pub is_peer : ℕ → ℕ → Object → Bool
is_peer cpu priority (Sc ec its_cpu its_priority quantum) = (its_cpu == cpu) && (its_priority == priority)
is_peer cpu priority other = false

-- those turns, if the budget's stamp is less than `stamp`
abbrev pub left_before : ℕ → Option Budget → ℕ
left_before stamp None = 0
left_before stamp (Some b) = if nat_lt b.stamp stamp then turns_left b else 0

-- their sum over the scheduling contexts of this processor and priority, runnable or not: how many turns are ahead of a stamp
abbrev pub ahead_in : ℕ → ℕ → ℕ → List Object → List (Option Budget) → ℕ
ahead_in cpu priority stamp (o ∷ os) (b ∷ bs) = (if is_peer cpu priority o then left_before stamp b else 0) + ahead_in cpu priority stamp os bs
ahead_in cpu priority stamp [] bs = 0
ahead_in cpu priority stamp (o ∷ os) [] = 0

abbrev pub ahead : KernelState → ℕ → ℕ → ℕ → ℕ
ahead k cpu priority stamp = ahead_in cpu priority stamp k.objects k.budgets

-- WHERE TURNS GO

abbrev pub is_paid_by : ℕ → Option Candidate → Bool
is_paid_by sc None = false
is_paid_by sc (Some c) = c.sc == sc

abbrev pub is_above : ℕ → Option Candidate → Bool
is_above priority None = false
is_above priority (Some c) = nat_lt priority c.priority

-- of these turns, how many are the processor's
abbrev pub turns_at : ℕ → List ℕ → ℕ
turns_at cpu [] = 0
turns_at cpu (by ∷ turns) = (if by == cpu then 1 else 0) + turns_at cpu turns

-- in how many of those something is due
abbrev pub due_in : KernelState → ℕ → List ℕ → ℕ
due_in k cpu [] = 0
due_in k cpu (by ∷ turns) = (if (by == cpu) && is_due k by then 1 else 0) + due_in (after k by) cpu turns

-- for how many of those a scheduling context of a greater priority pays
abbrev pub above_in : KernelState → ℕ → ℕ → List ℕ → ℕ
above_in k cpu priority [] = 0
above_in k cpu priority (by ∷ turns) = (if (by == cpu) && is_above priority (next_to_act k by) then 1 else 0) + above_in (after k by) cpu priority turns

-- for how many turns this scheduling context pays
abbrev pub paid_in : KernelState → ℕ → List ℕ → ℕ
paid_in k sc [] = 0
paid_in k sc (by ∷ turns) = (if is_paid_by sc (next_to_act k by) then 1 else 0) + paid_in (after k by) sc turns

-- Along these turns the stamp of `sc` stays, and its quantum falls by 1 with each turn that it pays for. Each turn of the processor is due, of a greater priority, its own, or lowers by 1 what
-- is ahead of it.
pub record HasWaited (k : KernelState) (turns : List ℕ) (sc ec cpu priority quantum : ℕ) (b : Budget) : Type 0 where
  pub budget : Budget
  pub still : IsSchedule (run k turns) sc ec cpu priority quantum budget
  pub stamp : budget.stamp ≡ b.stamp
  pub left : turns_left budget + paid_in k sc turns ≡ turns_left b
  pub count : turns_at cpu turns + ahead (run k turns) cpu priority b.stamp
      ≡ due_in k cpu turns + (above_in k cpu priority turns + (paid_in k sc turns + ahead k cpu priority b.stamp))

-- each turn of the processor among these is due, of a greater priority, or lowers by 1 what is ahead of the budget's stamp
abbrev pub IsInTime : KernelState → List ℕ → ℕ → ℕ → Budget → Type 0
IsInTime k turns cpu priority b = turns_at cpu turns + ahead (run k turns) cpu priority b.stamp ≡ due_in k cpu turns + (above_in k cpu priority turns + ahead k cpu priority b.stamp)

-- along these turns `ec` stays runnable, its scheduling context pays for none, and each turn of the processor is due, of a greater priority, or lowers by 1 what is ahead of it
pub record HasAwaited (k : KernelState) (turns : List ℕ) (sc ec cpu priority : ℕ) (b : Budget) : Type 0 where
  pub still : MayRun (run k turns) ec
  pub none : paid_in k sc turns ≡ 0
  pub count : IsInTime k turns cpu priority b

-- EXECUTION CONTEXTS THAT WAIT FOR NONE

-- in these states an execution context acts in its own turns, whatever others do
abbrev pub acts_itself : State → Bool
acts_itself Fresh = true
acts_itself Ready = true
acts_itself (Exiting reason q0 q1) = true
acts_itself (Granting new) = true
acts_itself Replying = true
acts_itself (Revoking range own) = true
acts_itself other = false

-- the execution context is in such a state
pub record ActsItself (k : KernelState) (ec : ℕ) : Type 0 where
  pub state : State
  pub is : state_in k.contexts ec ≡ Some state
  pub acts : acts_itself state ≡ true

-- the execution context acts in none of these turns
abbrev pub NeverActs : KernelState → ℕ → List ℕ → Type 0
NeverActs k ec [] = Unit {0}
NeverActs k ec (by ∷ turns) = (option_map (λ (c : Candidate). c.actor) (next_to_act k by) ≢ Some ec) × NeverActs (after k by) ec turns

-- the processor's next turn is paid for by `sc`, and the execution context to which the turns of `ec` lead acts in it
pub record GoesFirst (k : KernelState) (cpu sc ec : ℕ) : Type 0 where
  pub chosen : Candidate
  pub acts : next_to_act k cpu ≡ Some chosen
  pub pays : chosen.sc ≡ sc
  pub its : chosen.actor ≡ actor k ec

-- ROUNDS OF A RING

-- for how many turns a scheduling context pays from one stamp to the next: its quantum, or 1
abbrev pub full_quantum : ℕ → ℕ
full_quantum quantum = quantum - 1 + 1

abbrev pub full_quantum_in : Object → ℕ
full_quantum_in (Sc ec cpu priority quantum) = full_quantum quantum
full_quantum_in other = 0

-- the sum of those of the other scheduling contexts of this processor and priority
abbrev pub others_in : ℕ → ℕ → ℕ → ℕ → List Object → ℕ
others_in cpu priority sc n [] = 0
others_in cpu priority sc n (o ∷ os) = (if is_peer cpu priority o && not (n == sc) then full_quantum_in o else 0) + others_in cpu priority sc (n + 1) os

abbrev pub others : KernelState → ℕ → ℕ → ℕ → ℕ
others k cpu priority sc = others_in cpu priority sc 0 k.objects

-- Along these turns the stamp of `sc` is renewed `renewals` times, once for each full quantum that it pays for. The processor's turns are at most those due, those of a greater priority, its own,
-- those ahead of it at the start, and for each renewal the full quanta of its peers, as they are at the end.
pub record HasShared (k : KernelState) (turns : List ℕ) (sc ec cpu priority quantum : ℕ) (b : Budget) : Type 0 where
  pub renewals : ℕ
  pub budget : Budget
  pub still : IsSchedule (run k turns) sc ec cpu priority quantum budget
  pub within : turns_left budget ≤ full_quantum quantum
  pub paid : paid_in k sc turns + turns_left budget ≡ turns_left b + renewals * full_quantum quantum
  pub often : renewals * full_quantum quantum < paid_in k sc turns + full_quantum quantum
  pub count : turns_at cpu turns
      ≤ due_in k cpu turns + (above_in k cpu priority turns + (paid_in k sc turns + (ahead k cpu priority b.stamp + renewals * others (run k turns) cpu priority sc)))
