-- Which scheduling contexts may run, which runs first, and which a change is of, in plain terms.
use Rattle.std.specs.Prelude.{◌≡◌, ◌<◌, ◌≤◌, ◌⊎◌, ℕ, Bool, true, [], length, Some, MatchOption}
use Rattle.nova_sched.specs.Queues.{Schedule, queued_at, choose, marked, charged_schedule, added}
use Rattle.nova_sched.specs.declared.queued.Queued.{Queued}

-- one of the processor that is runnable
pub record MayRun (cpu : ℕ) (e : Queued) : Type 0 where
  pub its_cpu : e.cpu ≡ cpu
  pub runnable : e.is_runnable ≡ true

abbrev pub NobodyMayRun : Schedule → ℕ → Type 0
NobodyMayRun s cpu = (sc : ℕ) (e : Queued) → queued_at s sc ≡ Some e → ¬ MayRun cpu e

-- of two the second has a lesser priority, or the same and no lesser stamp
abbrev pub IsNotBehind : Queued → Queued → Type 0
IsNotBehind a b = (b.priority < a.priority) ⊎ ((b.priority ≡ a.priority) × (a.budget.stamp ≤ b.budget.stamp))

-- a scheduling context that may run, behind none that may
pub record IsForemost (s : Schedule) (cpu sc : ℕ) : Type 0 where
  pub chosen : Queued
  pub there : queued_at s sc ≡ Some chosen
  pub may_run : MayRun cpu chosen
  pub first : (other : ℕ) (o : Queued) → queued_at s other ≡ Some o → MayRun cpu o → IsNotBehind chosen o

-- a chosen scheduling context is foremost, and none is chosen where none may run
abbrev pub ChosenIsForemost : Type 0
ChosenIsForemost = (s : Schedule) (cpu : ℕ) → MatchOption (choose s cpu) (NobodyMayRun s cpu) (IsForemost s cpu)

-- every other stays as it was
abbrev pub ChangesOne : Schedule → ℕ → Schedule → Type 0
ChangesOne s sc after = (other : ℕ) → ¬ (other ≡ sc) → queued_at after other ≡ queued_at s other

abbrev pub MarkedChangesOne : Type 0
MarkedChangesOne = (s : Schedule) (sc : ℕ) (runnable : Bool) → ChangesOne s sc (marked s sc runnable)

abbrev pub ChargedChangesOne : Type 0
ChargedChangesOne = (s : Schedule) (sc : ℕ) → ChangesOne s sc (charged_schedule s sc)

abbrev pub AddedChangesOne : Type 0
AddedChangesOne = (s : Schedule) (sc cpu priority quantum : ℕ) → length s.entries ≤ sc → ChangesOne s sc (added s sc cpu priority quantum)

-- each stamp is below the stamp that is given next, and no two have the same
pub record AreStamped (s : Schedule) : Type 0 where
  pub below : (sc : ℕ) (e : Queued) → queued_at s sc ≡ Some e → e.budget.stamp < s.next_stamp
  pub apart : (a b : ℕ) (x y : Queued) → queued_at s a ≡ Some x → queued_at s b ≡ Some y → x.budget.stamp ≡ y.budget.stamp → a ≡ b

-- that is so of no scheduling contexts, and each change keeps it
pub record StampsAreGivenOnce : Type 0 where
  pub none : (cpus : ℕ) → AreStamped (record { entries = []; next_stamp = 0; cpus = cpus })
  pub add : (s : Schedule) (sc cpu priority quantum : ℕ) → length s.entries ≤ sc → AreStamped s → AreStamped (added s sc cpu priority quantum)
  pub mark : (s : Schedule) (sc : ℕ) (runnable : Bool) → AreStamped s → AreStamped (marked s sc runnable)
  pub charge : (s : Schedule) (sc : ℕ) → AreStamped s → AreStamped (charged_schedule s sc)

-- then only one scheduling context is foremost
abbrev pub ForemostIsAlone : Type 0
ForemostIsAlone = (s : Schedule) (cpu a b : ℕ) → AreStamped s → IsForemost s cpu a → IsForemost s cpu b → a ≡ b
