use Rattle.law_revocation.proofs.Calling.{ended_called}
use Rattle.law_revocation.proofs.Ending.{answered, returned, told}
use Rattle.law_revocation.proofs.Kept.{reachable_sound}
use Rattle.law_revocation.proofs.a_returned_revoke_left_nothing.Goals as goal

pub returns-clause-ends : goal.returns-clause-ends
returns-clause-ends c = returned

pub returns-clause-answers : goal.returns-clause-answers
returns-clause-answers c = answered

pub returns-clause-events : goal.returns-clause-events
returns-clause-events c = told

pub returns-clause-reached : goal.returns-clause-reached
returns-clause-reached c = λ k cpu ec at. told k cpu ec (reachable_sound k at)

pub returns-clause-called : goal.returns-clause-called
returns-clause-called c = ended_called
