-- A turn as one value: an effect, whose stir counts rise, and the scheduling context that pays. And the state after it, field by field.
use Rattle.std.specs.Prelude.{ℕ, ◌≡◌, ◌+◌, Bool, true, false, IsSome, if◌then◌else◌, List, [], ◌∷◌, slice_get, slice_index, slice_set, Option, Some, None, option_map}
use Rattle.nova_objects.specs.declared.object.Object.{Object}
use Rattle.nova_model.specs.Choice.{Candidate, choice, next_to_act}
use Rattle.nova_model.specs.Deeds.{deed}
use Rattle.nova_model.specs.Inputs.{is_stirred}
use Rattle.nova_model.specs.State.{KernelState, deadline_of, entry}
use Rattle.nova_model.specs.Times.{deadline_sm, due_on, next_moment, ticked}
use Rattle.nova_model.specs.Turn.{budget_after, event_of, event_without, is_spent, number_in, quantum_in, stamp_after, status_of, whom_of}
use Rattle.nova_model.specs.declared.event.EventKind.{EventKind}
use Rattle.nova_model.specs.declared.event.EventKind.TheVariants as event
use Rattle.nova_model.specs.declared.times.Due.TheVariants as due
use Rattle.nova_range.specs.Statuses.{status_code}
use Rattle.nova_range.specs.declared.status.Status.TheVariants.{Timeout}
use Rattle.nova_model.specs.declared.budget.Budget.{Budget}
use Rattle.nova_model.specs.declared.event.Event.{Event}
use Rattle.nova_model.specs.declared.event.Turn.{Turn}
use Rattle.nova_model.specs.declared.event.Turn.TheVariants.{Stepped, Idle}
use Rattle.law_forest.specs.Effects.{Effect, Falls, Passing, Ticks, alarm_up, applied, effect, passing_effect}

pub record Turning : Type 0 where
  pub effect : Effect
  pub stirs : ℕ → Bool
  pub charge : Option ℕ

abbrev pub stirred_counts : (ℕ → Bool) → ℕ → List (Option ℕ) → List (Option ℕ)
stirred_counts is g [] = []
stirred_counts is g (count ∷ counts) = option_map (λ n. if is g then n + 1 else n) count ∷ stirred_counts is (g + 1) counts

abbrev pub budgets_paid : List (Option Budget) → ℕ → ℕ → ℕ → Option Budget → List (Option Budget)
budgets_paid bs sc quantum stamp None = bs
budgets_paid bs sc quantum stamp (Some b) = slice_set bs sc (Some (budget_after (is_spent b) quantum stamp b))

abbrev pub budgets_charged : List Object → List (Option Budget) → ℕ → Option ℕ → List (Option Budget)
budgets_charged os bs stamp None = bs
budgets_charged os bs stamp (Some sc) = budgets_paid bs sc (quantum_in (slice_get os sc)) stamp (entry (slice_get bs sc))

abbrev pub stamp_paid : ℕ → Option Budget → ℕ
stamp_paid stamp None = stamp
stamp_paid stamp (Some b) = stamp_after (is_spent b) stamp

abbrev pub stamp_charged : List (Option Budget) → ℕ → Option ℕ → ℕ
stamp_charged bs stamp None = stamp
stamp_charged bs stamp (Some sc) = stamp_paid stamp (entry (slice_get bs sc))

-- what is stirred, charged and counted, after the effect
abbrev pub settled : KernelState → ℕ → Turning → KernelState
settled s cpu t = record s {
  budgets = budgets_charged s.objects s.budgets s.next_stamp t.charge;
  next_stamp = stamp_charged s.budgets s.next_stamp t.charge;
  turns = s.turns + 1;
  stirs = record {
    guests = stirred_counts t.stirs 0 s.stirs.guests;
    processors = slice_set s.stirs.processors cpu (slice_index s.stirs.processors cpu + 1);
  };
  times = ticked s.times cpu;
}

abbrev pub turned : KernelState → ℕ → Turning → KernelState
turned k cpu t = settled (applied k t.effect) cpu t

-- the turn of the chosen candidate
abbrev pub acting : KernelState → Candidate → Turning
acting k c = record { effect = effect k c.actor (deed k c.actor); stirs = is_stirred k c.actor (deed k c.actor); charge = Some c.sc }

-- the turn of what comes by itself: no context is stirred, and none pays
abbrev pub passing : KernelState → Passing → Turning
passing k p = record { effect = passing_effect k p; stirs = λ g. false; charge = None }

abbrev pub passing_event : KernelState → ℕ → Passing → Event
passing_event k cpu (Falls (due.Alarm alarm)) = event_without cpu (number_in (whom_of (alarm_up k alarm))) event.Irq alarm (status_of (alarm_up k alarm))
passing_event k cpu (Falls (due.Deadline ec)) = event_without cpu ec event.Late (deadline_sm (deadline_of k.times ec)) (status_code Timeout)
passing_event k cpu Ticks = event_without cpu 0 event.Tick 0 0

-- an event of what comes by itself, and which no scheduling context pays, is of these kinds
abbrev pub is_passing : EventKind → Bool
is_passing event.Late = true
is_passing event.Irq = true
is_passing event.Tick = true
is_passing other = false

-- it comes where it is due; and a tick where nothing is, and nothing is runnable, and something is to come
abbrev pub IsPassing : KernelState → ℕ → Passing → Type 0
IsPassing k cpu (Falls what) = due_on k.times cpu ≡ Some what
IsPassing k cpu Ticks = (due_on k.times cpu ≡ None) × (choice k cpu ≡ None) × IsSome (next_moment k.times cpu)

-- how a turn of a processor comes about, with its event
pub data IsTurning (k : KernelState) (cpu : ℕ) (t : Turning) (e : Event) : Type 0 where
  Acts : (c : Candidate) → next_to_act k cpu ≡ Some c → t ≡ acting k c → e ≡ event_of cpu c (deed k c.actor) → IsTurning k cpu t e
  Passes : (p : Passing) → IsPassing k cpu p → t ≡ passing k p → e ≡ passing_event k cpu p → IsTurning k cpu t e

-- what is to be done on a processor comes to nothing, or to a turn
pub data Comes (k new : KernelState) (cpu : ℕ) (answer : Turn) : Type 0 where
  Idles : choice k cpu ≡ None → next_moment k.times cpu ≡ None → new ≡ k → answer ≡ Idle → Comes k new cpu answer
  Takes : (t : Turning) (e : Event) → IsTurning k cpu t e → new ≡ turned k cpu t → answer ≡ Stepped e → Comes k new cpu answer
