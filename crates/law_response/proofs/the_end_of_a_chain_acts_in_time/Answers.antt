use Rattle.law_response.proofs.Responding.{awaited}
use Rattle.law_response.proofs.the_end_of_a_chain_acts_in_time.Goals as goal

pub returns : goal.returns
returns c = awaited
