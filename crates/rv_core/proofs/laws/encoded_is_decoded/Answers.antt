use Rattle.rv_core.proofs.Encoded.{encoded, decoded}
use Rattle.rv_core.proofs.laws.encoded_is_decoded.Goals as goal

pub returns-clause-again : goal.returns-clause-again
returns-clause-again c i e = encoded i e

pub returns-clause-all : goal.returns-clause-all
returns-clause-all c w i h e = decoded w i h e
