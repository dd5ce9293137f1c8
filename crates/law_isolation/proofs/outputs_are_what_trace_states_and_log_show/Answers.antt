use Rattle.law_isolation.proofs.Shows.{bytes_put, exits_raised, outputs_shown}
use Rattle.law_isolation.proofs.outputs_are_what_trace_states_and_log_show.Goals as goal

pub returns-clause-all : goal.returns-clause-all
returns-clause-all c = outputs_shown

pub returns-clause-raised : goal.returns-clause-raised
returns-clause-raised c = exits_raised

pub returns-clause-stored : goal.returns-clause-stored
returns-clause-stored c = bytes_put
