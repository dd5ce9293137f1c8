use Rattle.law_sides.proofs.Flowing.{flow_told, told_flows}
use Rattle.law_sides.proofs.Once.{flows_once}
use Rattle.law_sides.proofs.laws.all_memory_that_flows_is_told.Goals as goal

pub returns-clause-all : goal.returns-clause-all
returns-clause-all c shared flows = flow_told

pub returns-clause-only : goal.returns-clause-only
returns-clause-only c = told_flows

pub returns-clause-once : goal.returns-clause-once
returns-clause-once c = flows_once
