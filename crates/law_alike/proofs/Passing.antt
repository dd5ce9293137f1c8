-- What comes by itself does the same in alike states.
use Rattle.std.proofs.Common.{◌≡◌, ℕ, refl, ap, ap₂}
use Rattle.std.specs.Prelude.{slice_get, Option, Some, None}
use Rattle.nova_range.specs.Statuses.{status_code}
use Rattle.nova_range.specs.declared.status.Status.{Status}
use Rattle.nova_range.specs.declared.status.Status.TheVariants.{Success, Timeout}
use Rattle.nova_model.specs.Semaphores.{Semaphores, raised, semaphore, without_one, woken}
use Rattle.nova_model.specs.State.{KernelState, deadline_of}
use Rattle.nova_model.specs.Times.{Times, alarm_sm, deadline_sm}
use Rattle.nova_model.specs.Turn.{event_without, number_in, status_of, whom_of}
use Rattle.nova_model.specs.declared.event.Event.{Event}
use Rattle.nova_model.specs.declared.event.EventKind.TheVariants as event
use Rattle.nova_model.specs.declared.times.AlarmState.{AlarmState}
use Rattle.nova_model.specs.declared.times.Deadline.{Deadline}
use Rattle.nova_model.specs.declared.times.Due.TheVariants as due
use Rattle.law_forest.specs.Effects.{Effect, Falls, Passing, Ticks, clears_by, ends_by, passing_effect, with_status}
use Rattle.law_forest.specs.Turns.{passing_event}
use Rattle.law_alike.specs.Alike.{IsAlike, IsAlarmAlike, IsDeadlineAlike}
use Rattle.law_alike.proofs.Moments.{IsSetAlike}

alarms_same : (t u : Times) (o p : Option AlarmState) → IsAlarmAlike t u o p → alarm_sm o ≡ alarm_sm p
alarms_same t u None None h = refl
alarms_same t u None (Some b) h = absurd h
alarms_same t u (Some a) None h = absurd h
alarms_same t u (Some a) (Some b) h = ap (λ (x : _). alarm_sm (Some (record a { alarm = x }))) h.0

deadlines_same : (t u : Times) (o p : Option Deadline) → IsDeadlineAlike t u o p → deadline_sm o ≡ deadline_sm p
deadlines_same t u None None h = refl
deadlines_same t u None (Some e) h = absurd h
deadlines_same t u (Some d) None h = absurd h
deadlines_same t u (Some d) (Some e) h = h.1

same_semaphores : (k l : KernelState) → IsAlike k l → k.semaphores ≡ l.semaphores
same_semaphores k l alike = ap (λ (u : KernelState). u.semaphores) alike.rest

same_alarm : (k l : KernelState) (n : ℕ) → IsAlike k l → alarm_sm (slice_get k.times.alarms n) ≡ alarm_sm (slice_get l.times.alarms n)
same_alarm k l n alike = alarms_same k.times l.times (slice_get k.times.alarms n) (slice_get l.times.alarms n) (alike.times.alarms n)

same_deadline : (k l : KernelState) (ec : ℕ) → IsAlike k l → deadline_sm (deadline_of k.times ec) ≡ deadline_sm (deadline_of l.times ec)
same_deadline k l ec alike = deadlines_same k.times l.times (deadline_of k.times ec) (deadline_of l.times ec) (alike.times.deadlines ec)

-- the effect of an alarm at a semaphore of a table, and of a deadline
abbrev rings_at : ℕ → ℕ → Semaphores → Effect
rings_at n sm all = record {
  made = None;
  branch = None;
  edits = ends_by (with_status Success (whom_of (woken (semaphore all sm))));
  words = None;
  transfer = None;
  identifier = None;
  semaphore = Some (sm, raised);
  store = None;
  deadline = clears_by (with_status Success (whom_of (woken (semaphore all sm))));
  rings = Some n;
}

abbrev ends_at : ℕ → ℕ → Effect
ends_at ec sm = record {
  made = None;
  branch = None;
  edits = ends_by (Some (ec, Timeout));
  words = None;
  transfer = None;
  identifier = None;
  semaphore = Some (sm, without_one ec);
  store = None;
  deadline = clears_by (Some (ec, Timeout));
  rings = None;
}

pub effects_passing : (k l : KernelState) (p : Passing) → IsAlike k l → passing_effect k p ≡ passing_effect l p
effects_passing k l (Falls (due.Alarm n)) alike = ap₂ (rings_at n) (same_alarm k l n alike) (same_semaphores k l alike)
effects_passing k l (Falls (due.Deadline ec)) alike = ap (ends_at ec) (same_deadline k l ec alike)
effects_passing k l Ticks alike = refl

abbrev alarm_event : ℕ → ℕ → ℕ → Semaphores → Event
alarm_event cpu n sm all = event_without cpu (number_in (whom_of (woken (semaphore all sm)))) event.Irq n (status_of (woken (semaphore all sm)))

pub events_passing : (k l : KernelState) (cpu : ℕ) (p : Passing) → IsAlike k l → passing_event k cpu p ≡ passing_event l cpu p
events_passing k l cpu (Falls (due.Alarm n)) alike = ap₂ (alarm_event cpu n) (same_alarm k l n alike) (same_semaphores k l alike)
events_passing k l cpu (Falls (due.Deadline ec)) alike = ap (λ (sm : ℕ). event_without cpu ec event.Late sm (status_code Timeout)) (same_deadline k l ec alike)
events_passing k l cpu Ticks alike = refl

pub cleared : (t u : Times) (o : Option (ℕ × Status)) → IsSetAlike t u (clears_by o) (clears_by o)
cleared t u None = tt
cleared t u (Some (w, status)) = (refl, tt)
