-- What these laws ask of a state is kept by turns.
use Rattle.std.proofs.Common.{ℕ, List, [], ◌∷◌}
use Rattle.nova_model.specs.Boot.{Scenario, boot}
use Rattle.nova_model.specs.Runs.{after, run}
use Rattle.nova_model.specs.State.{KernelState}
use Rattle.law_forest.proofs.Boots.{boot_forest}
use Rattle.law_forest.proofs.Changes.{change_forest, turn_change}
use Rattle.law_turns.proofs.Donation.{keeps, reached_kept}
use Rattle.law_origins.specs.Reachable.{IsReachable}
use Rattle.law_origins.proofs.Reachable.{of_reachable}
use Rattle.law_revocation.specs.Sound.{IsKeptForest}

pub boot_sound : (s : Scenario) → IsKeptForest (boot s)
boot_sound s = record {
  forest = boot_forest s;
  kept = reached_kept s [];
}

pub turn_sound : (k : KernelState) (cpu : ℕ) → IsKeptForest k → IsKeptForest (after k cpu)
turn_sound k cpu sound = record {
  forest = change_forest k.delegations (after k cpu).delegations (turn_change k cpu sound.forest) sound.forest;
  kept = keeps k cpu sound.kept;
}

run_sound : (k : KernelState) (turns : List ℕ) → IsKeptForest k → IsKeptForest (run k turns)
run_sound k [] sound = sound
run_sound k (cpu ∷ turns) sound = run_sound (after k cpu) turns (turn_sound k cpu sound)

pub reached_sound : (s : Scenario) (turns : List ℕ) → IsKeptForest (run (boot s) turns)
reached_sound s turns = run_sound (boot s) turns (boot_sound s)

pub reachable_sound : (k : KernelState) → IsReachable k → IsKeptForest k
reachable_sound = of_reachable IsKeptForest reached_sound
