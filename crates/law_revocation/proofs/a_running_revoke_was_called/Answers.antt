use Rattle.law_revocation.proofs.Calling.{called, reached_called}
use Rattle.law_revocation.proofs.a_running_revoke_was_called.Goals as goal

pub returns-clause-turns : goal.returns-clause-turns
returns-clause-turns c = called

pub returns-clause-reached : goal.returns-clause-reached
returns-clause-reached c = reached_called
