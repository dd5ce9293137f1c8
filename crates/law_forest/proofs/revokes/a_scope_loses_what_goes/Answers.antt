use Rattle.law_forest.proofs.Forests.{forest_without}
use Rattle.law_forest.proofs.Scopes.{scope_without}
use Rattle.law_forest.proofs.revokes.a_scope_loses_what_goes.Goals as goal

pub returns : goal.returns
returns c = record { forest = forest_without; scope = scope_without }
