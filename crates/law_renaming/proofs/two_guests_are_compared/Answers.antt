use Rattle.law_renaming.proofs.Comparing.{verdict_holds}
use Rattle.law_renaming.proofs.Single.{one_verdict}
use Rattle.law_renaming.proofs.two_guests_are_compared.Goals as goal

pub returns-clause-holds : goal.returns-clause-holds
returns-clause-holds c = verdict_holds

pub returns-clause-alone : goal.returns-clause-alone
returns-clause-alone c = one_verdict
