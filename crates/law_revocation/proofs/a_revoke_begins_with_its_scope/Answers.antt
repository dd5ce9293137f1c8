use Rattle.law_revocation.proofs.Ending.{begun}
use Rattle.law_revocation.proofs.a_revoke_begins_with_its_scope.Goals as goal

pub returns : goal.returns
returns c = begun
