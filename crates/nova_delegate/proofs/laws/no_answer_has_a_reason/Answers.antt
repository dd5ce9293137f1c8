use Rattle.nova_delegate.proofs.Answering.{no_answer}
use Rattle.nova_delegate.proofs.laws.no_answer_has_a_reason.Goals as goal

pub returns : goal.returns
returns c = no_answer
