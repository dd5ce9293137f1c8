use Rattle.std.proofs.Common.{◌∙◌, sym}
use Rattle.law_service.proofs.Between.{admitted_between, courses_between, works_between}
use Rattle.law_service.proofs.Meeting.{admitted, courses, revoking, side, works}
use Rattle.law_service.proofs.a_served_run_comes_to_the_premises.Goals as goal

pub returns-clause-part : goal.returns-clause-part
returns-clause-part c = side

pub returns-clause-revoking : goal.returns-clause-revoking
returns-clause-revoking c = revoking

pub returns-clause-admitted : goal.returns-clause-admitted
returns-clause-admitted c = admitted

pub returns-clause-works : goal.returns-clause-works
returns-clause-works c = works

pub returns-clause-happens : goal.returns-clause-happens
returns-clause-happens c = courses

pub returns-clause-between : goal.returns-clause-between
returns-clause-between c = admitted_between

pub returns-clause-works_between : goal.returns-clause-works_between
returns-clause-works_between c = works_between

pub returns-clause-same : goal.returns-clause-same
returns-clause-same c = courses_between ∙ sym courses
