use Rattle.nova_sem.proofs.Expiring.{only_the_late_goes}
use Rattle.nova_sem.proofs.Waiting.{only_the_woken_goes, only_the_blocked_comes}
use Rattle.nova_sem.proofs.laws.one_comes_or_goes.Goals as goal

pub returns-clause-goes : goal.returns-clause-goes
returns-clause-goes c = only_the_woken_goes

pub returns-clause-comes : goal.returns-clause-comes
returns-clause-comes c = only_the_blocked_comes

pub returns-clause-late : goal.returns-clause-late
returns-clause-late c = only_the_late_goes
