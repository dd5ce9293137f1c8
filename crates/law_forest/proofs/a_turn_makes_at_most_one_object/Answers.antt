use Rattle.law_forest.proofs.Growth.{turn_grows}
use Rattle.law_forest.proofs.a_turn_makes_at_most_one_object.Goals as goal

pub returns : goal.returns
returns c = turn_grows
