use Rattle.law_sides.proofs.Careful.{careful_along}
use Rattle.law_sides.proofs.laws.sides_that_stay_isolated_met_careful_turns.Goals as goal

pub returns : goal.returns
returns c = careful_along
