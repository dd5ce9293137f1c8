use Rattle.law_forest.proofs.Changes.{boot_run_forest}
use Rattle.law_forest.proofs.delegations_stay_a_forest.Goals as goal

pub returns : goal.returns
returns c = boot_run_forest
