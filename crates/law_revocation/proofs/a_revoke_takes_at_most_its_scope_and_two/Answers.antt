use Rattle.law_revocation.proofs.Ending.{among_called, whole}
use Rattle.law_revocation.proofs.Kept.{reachable_sound}
use Rattle.law_revocation.proofs.a_revoke_takes_at_most_its_scope_and_two.Goals as goal

pub returns-clause-among : goal.returns-clause-among
returns-clause-among c = among_called

pub returns-clause-turns : goal.returns-clause-turns
returns-clause-turns c = whole

pub returns-clause-reached : goal.returns-clause-reached
returns-clause-reached c = λ k first turns last ec r at. whole k first turns last ec r (reachable_sound k at)
