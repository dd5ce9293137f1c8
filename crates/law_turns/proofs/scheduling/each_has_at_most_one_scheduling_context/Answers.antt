use Rattle.law_turns.proofs.Schedules.{one_each, schedulable}
use Rattle.law_turns.proofs.scheduling.each_has_at_most_one_scheduling_context.Goals as goal

pub returns-clause-one : goal.returns-clause-one
returns-clause-one c = one_each

pub returns-clause-schedulable : goal.returns-clause-schedulable
returns-clause-schedulable c = schedulable
