-- Orders of turns: lists of processors, one turn each.
use Rattle.std.specs.Prelude.{◌≡◌, ℕ, ◌<◌, ◌≤◌, ◌⊎◌, true, List, length}
use Rattle.std.specs.List.{AllByRecursion}
use Rattle.nova_model.specs.State.{KernelState}
use Rattle.nova_model.specs.Choice.{is_quiet}
use Rattle.nova_model.specs.Runs.{IsFreeOfIdle, run}

-- an order of at most `most` turns, each of a processor that is there and not idle, that ends quiet or takes them all
pub record IsRunOut (k : KernelState) (most : ℕ) (order : List ℕ) : Type 0 where
  pub no_idle : IsFreeOfIdle k order
  pub processors : AllByRecursion (λ cpu. cpu < k.cpus) order
  pub within : length order ≤ most
  pub ended : (is_quiet (run k order) ≡ true) ⊎ (length order ≡ most)
