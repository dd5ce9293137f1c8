use Rattle.law_isolation.proofs.Runs.{other_is_one}
use Rattle.law_isolation.proofs.a_turn_of_another_is_an_input_or_nothing.Goals as goal

pub returns : goal.returns
returns c = other_is_one
