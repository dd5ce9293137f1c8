-- What is said of the sources of a scenario over an order of turns.
use Rattle.std.specs.Prelude.{◌≡◌, ℕ, ◌∷◌, ◌++◌, List, slice_get, true, Some, None}
use Rattle.nova_gsi.specs.Counters.{IsBalanced, MakesSemaphore}
use Rattle.nova_gsi.specs.Firings.{fired, is_irq, moments_until}
use Rattle.nova_gsi.specs.Laws.{AreOfMoments}
use Rattle.nova_model.specs.Choice.{is_quiet}
use Rattle.nova_model.specs.Runs.{after, run, trace}
use Rattle.nova_model.specs.Semaphores.{semaphore_at}
use Rattle.nova_model.specs.State.{KernelState, Semaphore}
use Rattle.nova_model.specs.Times.{clock, due_on}
use Rattle.nova_model.specs.declared.event.Event.{Event}
use Rattle.nova_model.specs.declared.times.AlarmState.{AlarmState}

-- the firings of each are of its moments, in order, and none is lost or doubled; where nothing is due on its processor at the end it fired as often
-- as moments have come, and in a quiet state as often as it was to; and each alarm has status 0. From any state of the run on in which a semaphore is
-- there its counter is balanced: so from the first on that of each source, and that of a semaphore that a turn makes from the state after this turn
-- on, in which it is what was asked for
pub record AreSourcesTold (k : KernelState) (order : List ℕ) : Type 0 where
  pub moments : (n : ℕ) (a : AlarmState) → slice_get k.times.alarms n ≡ Some a → AreOfMoments a.alarm n (trace k order)
  pub until : (n : ℕ) (a : AlarmState) → slice_get k.times.alarms n ≡ Some a → due_on (run k order).times a.alarm.cpu ≡ None →
      fired (trace k order) n ≡ moments_until a.alarm (clock (run k order).times a.alarm.cpu)
  pub quiet : (n : ℕ) (a : AlarmState) → slice_get k.times.alarms n ≡ Some a → is_quiet (run k order) ≡ true → fired (trace k order) n ≡ a.alarm.count
  pub statuses : (place : ℕ) (e : Event) → slice_get (trace k order) place ≡ Some e → is_irq e.kind ≡ true → e.b ≡ 0
  pub counters : (before later : List ℕ) (sm : ℕ) (s : Semaphore) → before ++ later ≡ order → semaphore_at (run k before).semaphores sm ≡ Some s →
      IsBalanced (run k before) later (run k order) sm s.count
  pub made : (before later : List ℕ) (cpu sm count : ℕ) → before ++ cpu ∷ later ≡ order → MakesSemaphore (run k before) cpu sm count →
      IsBalanced (after (run k before) cpu) later (run k order) sm count
