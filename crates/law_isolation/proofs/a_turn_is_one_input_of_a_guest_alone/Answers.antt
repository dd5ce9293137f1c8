use Rattle.law_isolation.proofs.Runs.{turn_is_one}
use Rattle.law_isolation.proofs.a_turn_is_one_input_of_a_guest_alone.Goals as goal

pub returns : goal.returns
returns c = turn_is_one
