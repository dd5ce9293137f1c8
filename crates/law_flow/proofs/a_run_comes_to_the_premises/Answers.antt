use Rattle.law_flow.proofs.Deriving.{meets_revoking}
use Rattle.law_flow.proofs.Meeting.{has_turn_next, meets_divided, meets_partitioned, meets_timeless}
use Rattle.law_flow.proofs.Working.{gives, revokes, works}
use Rattle.law_flow.proofs.a_run_comes_to_the_premises.Goals as goal

pub returns-clause-partitioned : goal.returns-clause-partitioned
returns-clause-partitioned c = meets_partitioned

pub returns-clause-timeless : goal.returns-clause-timeless
returns-clause-timeless c = meets_timeless

pub returns-clause-divided : goal.returns-clause-divided
returns-clause-divided c = meets_divided

pub returns-clause-revoking : goal.returns-clause-revoking
returns-clause-revoking c = meets_revoking

pub returns-clause-acts : goal.returns-clause-acts
returns-clause-acts c = has_turn_next

pub returns-clause-works : goal.returns-clause-works
returns-clause-works c = works

pub returns-clause-revokes : goal.returns-clause-revokes
returns-clause-revokes c = revokes

pub returns-clause-gives : goal.returns-clause-gives
returns-clause-gives c = gives
