use Rattle.law_turns.proofs.Windows.{items_taken, items_replied, items_resumed, range_created, threads_told}
use Rattle.law_turns.proofs.transfers.items_go_to_the_windows_of_the_receiver.Goals as goal

pub returns-clause-taken : goal.returns-clause-taken
returns-clause-taken c = items_taken

pub returns-clause-replied : goal.returns-clause-replied
returns-clause-replied c = items_replied

pub returns-clause-resumed : goal.returns-clause-resumed
returns-clause-resumed c = items_resumed

pub returns-clause-created : goal.returns-clause-created
returns-clause-created c = range_created

pub returns-clause-told : goal.returns-clause-told
returns-clause-told c = threads_told
