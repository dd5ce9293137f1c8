use Rattle.nova_judging.proofs.Sole.{sole, sole_tie}
use Rattle.nova_judging.proofs.laws.the_finest_sides_are_sole.Goals as goal

pub returns-clause-labels : goal.returns-clause-labels
returns-clause-labels c = sole

pub returns-clause-ties : goal.returns-clause-ties
returns-clause-ties c = sole_tie
