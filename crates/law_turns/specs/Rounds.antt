-- Orders of turns that go round the processors.
use Rattle.std.specs.Prelude.{◌≡◌, ◌<◌, ◌≤◌, ◌-◌, ℕ, nat_lt, List, [], ◌∷◌, filter, length, None}
use Rattle.std.specs.List.{AllByRecursion, Contains, concat}
use Rattle.nova_model.specs.Forest.{ArePairs}
use Rattle.nova_model.specs.Runs.{IsFreeOfIdle, run}
use Rattle.nova_model.specs.State.{KernelState}
use Rattle.nova_model.specs.Turn.{turn}

-- its turns of processors below `cpu`
abbrev pub below : ℕ → List ℕ → List ℕ
below cpu order = filter (λ other. nat_lt other cpu) order

-- once round: at most `most` turns, none idle, of processors that are there, in rising order and so at most one of each. A processor that has none
-- was idle when its place came, after the turns of those below it, unless these were all that may be taken.
pub record IsRound (k : KernelState) (most : ℕ) (order : List ℕ) : Type 0 where
  pub within : length order ≤ most
  pub no_idle : IsFreeOfIdle k order
  pub there : AllByRecursion (λ cpu. cpu < k.cpus) order
  pub rising : ArePairs (λ one next. one < next) order
  pub left_out : (cpu : ℕ) → cpu < k.cpus → (Contains order cpu → ⊥) → length (below cpu order) < most → turn (run k (below cpu order)) cpu ≡ None

-- orders that each go once round, one after another, of at most `most` turns in all
abbrev pub AreRounds : KernelState → ℕ → List (List ℕ) → Type 0
AreRounds k most [] = Unit {0}
AreRounds k most (order ∷ orders) = IsRound k most order × AreRounds (run k order) (most - length order) orders

-- an order that is made of such
pub record GoesRound (k : KernelState) (most : ℕ) (order : List ℕ) : Type 0 where
  pub rounds : List (List ℕ)
  pub joined : concat rounds ≡ order
  pub each : AreRounds k most rounds
