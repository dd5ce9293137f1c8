use Rattle.law_isolation.proofs.Turns.{memory_stays, no_input, nothing_seen}
use Rattle.law_isolation.proofs.what_comes_by_itself_is_nothing_for_a_guest.Goals as goal

pub returns-clause-view : goal.returns-clause-view
returns-clause-view c = nothing_seen

pub returns-clause-input : goal.returns-clause-input
returns-clause-input c = no_input

pub returns-clause-log : goal.returns-clause-log
returns-clause-log c = memory_stays
