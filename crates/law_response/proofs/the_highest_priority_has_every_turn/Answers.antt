use Rattle.law_response.proofs.Highest.{has_every_turn}
use Rattle.law_response.proofs.the_highest_priority_has_every_turn.Goals as goal

pub returns : goal.returns
returns c = has_every_turn
