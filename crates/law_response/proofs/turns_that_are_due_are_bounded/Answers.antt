use Rattle.law_response.proofs.Dues.{few_are_due}
use Rattle.law_response.proofs.turns_that_are_due_are_bounded.Goals as goal

pub returns : goal.returns
returns c = few_are_due
