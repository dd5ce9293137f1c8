-- Lines in what turns reach.
use Rattle.std.proofs.Common.{ℕ, List}
use Rattle.std.specs.Prelude.{Contains}
use Rattle.nova_model.specs.Boot.{Scenario, boot}
use Rattle.nova_model.specs.Lines.{line}
use Rattle.nova_model.specs.Runs.{run}
use Rattle.nova_model.specs.declared.delegation.Derivation.{Derivation}
use Rattle.law_forest.specs.Within.{StaysWithin, HasWholeLine}
use Rattle.law_forest.proofs.Changes.{boot_run_forest}
use Rattle.law_forest.proofs.Lines.{forest_within, forest_line}

pub reached_within : (s : Scenario) (turns : List ℕ) (d a : Derivation) → Contains (run (boot s) turns).delegations.list d →
    Contains (line (run (boot s) turns).delegations.list d) a → StaysWithin d a
reached_within s turns d a c on = forest_within (run (boot s) turns).delegations d a (boot_run_forest s turns) c on

pub reached_line : (s : Scenario) (turns : List ℕ) (d : Derivation) → Contains (run (boot s) turns).delegations.list d → HasWholeLine (run (boot s) turns).delegations.list d
reached_line s turns d c = forest_line (run (boot s) turns).delegations d (boot_run_forest s turns) c
