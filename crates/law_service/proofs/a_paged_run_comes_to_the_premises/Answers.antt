use Rattle.law_service.proofs.Pages.{admitted, courses, revoking, side, works}
use Rattle.law_service.proofs.a_paged_run_comes_to_the_premises.Goals as goal

pub returns-clause-part : goal.returns-clause-part
returns-clause-part c = side

pub returns-clause-revoking : goal.returns-clause-revoking
returns-clause-revoking c = revoking

pub returns-clause-admitted : goal.returns-clause-admitted
returns-clause-admitted c = admitted

pub returns-clause-works : goal.returns-clause-works
returns-clause-works c = works

pub returns-clause-happens : goal.returns-clause-happens
returns-clause-happens c = courses
