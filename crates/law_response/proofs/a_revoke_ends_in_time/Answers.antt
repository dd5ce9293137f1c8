use Rattle.law_response.proofs.Revoking.{revoked_in_time}
use Rattle.law_response.proofs.a_revoke_ends_in_time.Goals as goal

pub returns : goal.returns
returns c = revoked_in_time
