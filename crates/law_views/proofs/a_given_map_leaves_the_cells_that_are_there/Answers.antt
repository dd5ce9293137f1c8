use Rattle.law_views.proofs.Given.{given_cells, given_else, given_maps}
use Rattle.law_views.proofs.a_given_map_leaves_the_cells_that_are_there.Goals as goal

pub returns-clause-cells : goal.returns-clause-cells
returns-clause-cells c = given_cells

pub returns-clause-maps : goal.returns-clause-maps
returns-clause-maps c = given_maps

pub returns-clause-rest : goal.returns-clause-rest
returns-clause-rest c = given_else
