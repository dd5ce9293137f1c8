-- What is to come on a processor, and how long nothing is due there.
use Rattle.std.specs.Prelude.{◌≡◌, ℕ, ◌+◌, ◌*◌, ◌≤◌, ◌<◌, ◌⊎◌, List, Contains, slice_get, Some, IfSome, true, false}
use Rattle.nova_model.specs.State.{deadline_of}
use Rattle.nova_model.specs.Times.{Entry, Times, clock, entries, goes_on, is_before, next_entry, until_due}
use Rattle.nova_model.specs.declared.times.AlarmState.{AlarmState}
use Rattle.nova_model.specs.declared.times.Deadline.{Deadline}
use Rattle.nova_model.specs.declared.times.Due.{Due}
use Rattle.nova_model.specs.declared.times.Due.TheVariants as due

-- at least `n` turns are left until something is due
abbrev pub IsEarly : Times → ℕ → ℕ → Type 0
IsEarly t cpu n = IfSome (until_due t cpu) (λ left. n ≤ left)

-- an alarm of the processor that goes on, with its next moment, and the deadline of an execution context of the processor
pub record HasAlarm (t : Times) (cpu n moment : ℕ) : Type 0 where
  pub alarm : AlarmState
  pub there : slice_get t.alarms n ≡ Some alarm
  pub its : alarm.alarm.cpu ≡ cpu
  pub more : goes_on alarm ≡ true
  pub next : alarm.next ≡ moment

pub record HasDeadline (t : Times) (cpu ec moment : ℕ) : Type 0 where
  pub deadline : Deadline
  pub there : deadline_of t ec ≡ Some deadline
  pub its : deadline.cpu ≡ cpu
  pub at : deadline.at ≡ moment

abbrev pub IsEntry : Times → ℕ → ℕ → Due → Type 0
IsEntry t cpu moment (due.Alarm n) = HasAlarm t cpu n moment
IsEntry t cpu moment (due.Deadline ec) = HasDeadline t cpu ec moment

abbrev pub IsEntryOf : Times → ℕ → Entry → Type 0
IsEntryOf t cpu e = IsEntry t cpu e.moment e.what

-- each of these is an entry
pub record HasEntries (t : Times) (cpu : ℕ) : Type 0 where
  pub alarms : (n : ℕ) (a : AlarmState) → slice_get t.alarms n ≡ Some a → a.alarm.cpu ≡ cpu → goes_on a ≡ true →
      Contains (entries t cpu) (record { moment = a.next; what = due.Alarm n })
  pub deadlines : (ec : ℕ) (d : Deadline) → deadline_of t ec ≡ Some d → d.cpu ≡ cpu → Contains (entries t cpu) (record { moment = d.at; what = due.Deadline ec })

-- it is one of them, and each has a later moment, or the same and doesn't go first
pub record IsFirstEntry (es : List Entry) (e : Entry) : Type 0 where
  pub there : Contains es e
  pub least : (d : Entry) → Contains es d → (e.moment < d.moment) ⊎ ((e.moment ≡ d.moment) × (is_before d.what e.what ≡ false))

-- it is the first, and its moment has come
pub record IsDueOn (t : Times) (cpu : ℕ) (what : Due) : Type 0 where
  pub moment : ℕ
  pub next : next_entry t cpu ≡ Some (record { moment = moment; what = what })
  pub entry : IsEntry t cpu moment what
  pub due : moment ≤ clock t cpu

-- an alarm's next moment is its first, with a period more for each ring, of which there are no more than it was to have
pub record IsOnTime (a : AlarmState) : Type 0 where
  pub next : a.next ≡ a.alarm.first + a.rings * a.alarm.period
  pub rings : a.rings ≤ a.alarm.count
