use Rattle.law_response.proofs.HelpingRow.{helps_on}
use Rattle.law_response.proofs.a_call_of_an_equal_may_not_be_taken.Goals as goal

pub returns : goal.returns
returns c = helps_on
