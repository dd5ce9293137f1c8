use Rattle.law_response.proofs.Waiting.{reached_waited}
use Rattle.law_response.proofs.a_runnable_context_waits_for_its_ring.Goals as goal

pub returns : goal.returns
returns c = reached_waited
