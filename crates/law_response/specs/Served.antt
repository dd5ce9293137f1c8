-- How many rounds an execution context waits that waits for none and has the highest priority of its processor.
use Rattle.std.specs.Prelude.{◌≡◌, ◌≤◌, ◌<◌, ◌+◌, ◌++◌, ℕ, List, length, slice_get, Some}
use Rattle.std.specs.List.{concat}
use Rattle.nova_objects.specs.declared.object.Object.TheVariants.{Sc}
use Rattle.nova_model.specs.Runs.{run}
use Rattle.nova_model.specs.State.{KernelState}
use Rattle.nova_model.specs.declared.budget.Budget.{Budget}
use Rattle.law_turns.specs.Rounds.{GoesRound}
use Rattle.law_response.specs.Waits.{ActsItself, IsSchedule, NeverActs, due_in, others}

-- each scheduling context of the processor has at most this priority
abbrev pub IsHighest : KernelState → ℕ → ℕ → Type 0
IsHighest k cpu priority = (n ec p quantum : ℕ) → slice_get k.objects n ≡ Some (Sc ec cpu p quantum) → p ≤ priority

-- after the rounds `before` the execution context waits for none and has this scheduling context, and in the rounds `these` it doesn't act
pub record IsPassedOver (k : KernelState) (before these : List (List ℕ)) (sc ec cpu priority quantum : ℕ) : Type 0 where
  pub budget : Budget
  pub schedule : IsSchedule (run k (concat before)) sc ec cpu priority quantum budget
  pub itself : ActsItself (run k (concat before)) ec
  pub never : NeverActs (run k (concat before)) ec (concat these)

-- An order of rounds, in which each such execution context, if no scheduling context that its processor has at the end is of a greater priority, is passed over in at most as many rounds as have a turn
-- that is due on its processor, and as come to the full quanta of the others of its priority there; but for the last turn that may be taken.
pub record ServesInRounds (k : KernelState) (most : ℕ) (order : List ℕ) : Type 0 where
  pub goes : GoesRound k most order
  pub served : (before these later : List (List ℕ)) (sc ec cpu priority quantum : ℕ) → before ++ these ++ later ≡ goes.rounds → cpu < k.cpus →
      IsPassedOver k before these sc ec cpu priority quantum → IsHighest (run k order) cpu priority → length (concat before) + length (concat these) < most →
      length these ≤ due_in (run k (concat before)) cpu (concat these) + others (run k order) cpu priority sc
