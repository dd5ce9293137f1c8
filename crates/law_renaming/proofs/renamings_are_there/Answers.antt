use Rattle.law_renaming.proofs.Themselves.{agrees_itself, map_one}
use Rattle.law_renaming.proofs.renamings_are_there.Goals as goal

pub returns-clause-same : goal.returns-clause-same
returns-clause-same c = agrees_itself

pub returns-clause-maps : goal.returns-clause-maps
returns-clause-maps c = map_one
