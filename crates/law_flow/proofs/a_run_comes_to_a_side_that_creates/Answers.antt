use Rattle.law_flow.proofs.Founding.{founds, founds_alone, founds_both, founds_divided, founds_gives, founds_nothing, founds_on, founds_partitioned, founds_revoking, founds_timeless, founds_works}
use Rattle.law_flow.proofs.a_run_comes_to_a_side_that_creates.Goals as goal

pub returns-clause-partitioned : goal.returns-clause-partitioned
returns-clause-partitioned c = founds_partitioned

pub returns-clause-timeless : goal.returns-clause-timeless
returns-clause-timeless c = founds_timeless

pub returns-clause-alone : goal.returns-clause-alone
returns-clause-alone c = founds_alone

pub returns-clause-divided : goal.returns-clause-divided
returns-clause-divided c = founds_divided

pub returns-clause-revoking : goal.returns-clause-revoking
returns-clause-revoking c = founds_revoking

pub returns-clause-nothing : goal.returns-clause-nothing
returns-clause-nothing c = founds_nothing

pub returns-clause-stays : goal.returns-clause-stays
returns-clause-stays c = founds_on

pub returns-clause-works : goal.returns-clause-works
returns-clause-works c = founds_works

pub returns-clause-makes : goal.returns-clause-makes
returns-clause-makes c = founds

pub returns-clause-gives : goal.returns-clause-gives
returns-clause-gives c = founds_gives

pub returns-clause-more : goal.returns-clause-more
returns-clause-more c = founds_both
