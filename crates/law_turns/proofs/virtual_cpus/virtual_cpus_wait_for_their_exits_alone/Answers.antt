use Rattle.law_turns.proofs.Calling.{called_by_threads, exits_awaited, guests_stay}
use Rattle.law_turns.proofs.virtual_cpus.virtual_cpus_wait_for_their_exits_alone.Goals as goal

pub returns-clause-states : goal.returns-clause-states
returns-clause-states c = guests_stay

pub returns-clause-callers : goal.returns-clause-callers
returns-clause-callers c = called_by_threads

pub returns-clause-waiting : goal.returns-clause-waiting
returns-clause-waiting c = exits_awaited
