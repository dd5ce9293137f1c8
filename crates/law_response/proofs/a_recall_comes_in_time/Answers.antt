use Rattle.law_response.proofs.Recalled.{recalled_in_time}
use Rattle.law_response.proofs.a_recall_comes_in_time.Goals as goal

pub returns : goal.returns
returns c = recalled_in_time
