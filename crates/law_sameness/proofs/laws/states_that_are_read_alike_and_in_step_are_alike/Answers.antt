use Rattle.law_sameness.proofs.Alike.{alike_state}
use Rattle.law_sameness.proofs.laws.states_that_are_read_alike_and_in_step_are_alike.Goals as goal

pub returns : goal.returns
returns c = alike_state
