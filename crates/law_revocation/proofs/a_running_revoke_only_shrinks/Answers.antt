use Rattle.law_revocation.proofs.Kept.{reachable_sound}
use Rattle.law_revocation.proofs.Shrinking.{shrunk}
use Rattle.law_revocation.proofs.a_running_revoke_only_shrinks.Goals as goal

pub returns-clause-turns : goal.returns-clause-turns
returns-clause-turns c = shrunk

pub returns-clause-reached : goal.returns-clause-reached
returns-clause-reached c = λ k turns ec r at. shrunk k turns ec r (reachable_sound k at)
