use Rattle.law_response.proofs.Firsts.{no_circle}
use Rattle.law_response.proofs.a_chain_of_calls_never_closes_to_a_circle.Goals as goal

pub returns : goal.returns
returns c = no_circle
