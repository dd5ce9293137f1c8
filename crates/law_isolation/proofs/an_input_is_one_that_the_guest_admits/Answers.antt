use Rattle.law_isolation.proofs.Admits.{input_met}
use Rattle.law_isolation.proofs.an_input_is_one_that_the_guest_admits.Goals as goal

pub returns : goal.returns
returns c = input_met
