use Rattle.law_turns.proofs.Calling.{working, waiting, callers_there, callers_known, called_ones_taken, portals_lead, others_alone}
use Rattle.law_turns.proofs.callers.a_handler_at_work_has_one_caller.Goals as goal

pub returns-clause-at_work : goal.returns-clause-at_work
returns-clause-at_work c = working

pub returns-clause-parked : goal.returns-clause-parked
returns-clause-parked c = waiting

pub returns-clause-callers : goal.returns-clause-callers
returns-clause-callers c = callers_there

pub returns-clause-calling : goal.returns-clause-calling
returns-clause-calling c = callers_known

pub returns-clause-taking : goal.returns-clause-taking
returns-clause-taking c = called_ones_taken

pub returns-clause-handlers : goal.returns-clause-handlers
returns-clause-handlers c = portals_lead

pub returns-clause-others : goal.returns-clause-others
returns-clause-others c = others_alone
