use Rattle.law_revocation.proofs.Taking.{barred}
use Rattle.law_revocation.proofs.what_a_revoke_would_take_is_busy.Goals as goal

pub returns : goal.returns
returns c = barred
