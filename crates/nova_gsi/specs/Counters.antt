-- What ends at a semaphore in a turn: ups and downs that end with SUCCESS, and alarms with status 0.
use Rattle.std.specs.Prelude.{◌≡◌, ℕ, ◌+◌, ◌==◌, List, [], ◌∷◌, length, if◌then◌else◌, slice_get, Option, Some, None, Result}
use Rattle.nova_model.specs.Choice.{Candidate, next_to_act}
use Rattle.nova_model.specs.Deeds.{deed}
use Rattle.nova_model.specs.Numbers.{CpuId, EcId, SmId}
use Rattle.nova_model.specs.Runs.{after}
use Rattle.nova_model.specs.Semaphores.{semaphore}
use Rattle.nova_model.specs.State.{KernelState}
use Rattle.nova_model.specs.Times.{alarm_sm, due_on}
use Rattle.nova_model.specs.Turn.{status_of, whom_of}
use Rattle.nova_model.specs.declared.deed.Deed.{Deed}
use Rattle.nova_model.specs.declared.deed.Deed.TheVariants.{Downs, Makes, Ups}
use Rattle.nova_model.specs.declared.new_object.NewObject.TheVariants.{Sm}
use Rattle.nova_model.specs.declared.semaphore.Overflow.{Overflow}
use Rattle.nova_model.specs.declared.times.Due.{Due}
use Rattle.nova_model.specs.declared.times.Due.TheVariants as due
use Rattle.law_forest.specs.Effects.{alarm_up}

pub record Ends : Type 0 where
  pub ups : ℕ
  pub downs : ℕ
  pub irqs : ℕ

abbrev pub no_ends : Ends
no_ends = record { ups = 0; downs = 0; irqs = 0 }

-- a down that waited ends with SUCCESS in the turn in which it is woken
abbrev pub woken_ends : Option EcId → ℕ
woken_ends None = 0
woken_ends (Some w) = 1

-- in the turn of the context that acts, by its deed
abbrev pub ends_by_deed : SmId → Deed → Ends
ends_by_deed sm (Ups at whom) = if at == sm then record { ups = 1; downs = woken_ends whom; irqs = 0 } else no_ends
ends_by_deed sm (Downs at) = if at == sm then record { ups = 0; downs = 1; irqs = 0 } else no_ends
ends_by_deed sm other = no_ends

-- in the turn of an alarm, by what comes of its up
abbrev pub ends_by_alarm : SmId → SmId → Result (Option EcId) Overflow → Ends
ends_by_alarm sm at up = if at == sm then record { ups = 0; downs = woken_ends (whom_of up); irqs = if status_of up == 0 then 1 else 0 } else no_ends

abbrev pub ends_by : KernelState → SmId → Option Due → Option Candidate → Ends
ends_by k sm (Some (due.Alarm n)) c = ends_by_alarm sm (alarm_sm (slice_get k.times.alarms n)) (alarm_up k n)
ends_by k sm (Some (due.Deadline ec)) c = no_ends
ends_by k sm None (Some c) = ends_by_deed sm (deed k c.actor)
ends_by k sm None None = no_ends

-- in the next turn of a processor
abbrev pub ends_at : KernelState → CpuId → SmId → Ends
ends_at k cpu sm = ends_by k sm (due_on k.times cpu) (next_to_act k cpu)

-- along a list of turns
abbrev pub total : (Ends → ℕ) → KernelState → SmId → List CpuId → ℕ
total part k sm [] = 0
total part k sm (cpu ∷ turns) = part (ends_at k cpu sm) + total part (after k cpu) sm turns

-- from a state in which the counter is `count`, over some turns, to their last state: the counter then, with the downs that ended with SUCCESS, is
-- what it was, with the ups that did and the alarms with status 0
abbrev pub IsBalanced : KernelState → List CpuId → KernelState → SmId → ℕ → Type 0
IsBalanced k turns last sm count =
    (semaphore last.semaphores sm).count + total (λ e. e.downs) k sm turns ≡ count + total (λ e. e.ups) k sm turns + total (λ e. e.irqs) k sm turns

-- the next turn of a processor makes a semaphore, the next object, with this counter
pub record MakesSemaphore (k : KernelState) (cpu : CpuId) (sm : SmId) (count : ℕ) : Type 0 where
  pub maker : Candidate
  pub acts : next_to_act k cpu ≡ Some maker
  pub call : ℕ
  pub target : ℕ
  pub makes : deed k maker.actor ≡ Makes call target (Sm count)
  pub number : sm ≡ length k.objects
