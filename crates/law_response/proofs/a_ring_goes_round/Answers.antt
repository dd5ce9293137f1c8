use Rattle.law_response.proofs.Creating.{others_stay}
use Rattle.law_response.proofs.Sharing.{reached_before, reached_shared}
use Rattle.law_response.proofs.a_ring_goes_round.Goals as goal

pub returns-clause-most : goal.returns-clause-most
returns-clause-most c = reached_before

pub returns-clause-round : goal.returns-clause-round
returns-clause-round c = reached_shared

pub returns-clause-others : goal.returns-clause-others
returns-clause-others c = others_stay
