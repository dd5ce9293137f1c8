use Rattle.law_sameness.proofs.Same.{same_state}
use Rattle.law_sameness.proofs.laws.states_that_are_read_and_counted_alike_are_the_same.Goals as goal

pub returns : goal.returns
returns c = same_state
