use Rattle.law_turns.proofs.Windows.{words_tell, items_end}
use Rattle.law_turns.proofs.transfers.words_tell_what_came_of_an_item.Goals as goal

pub returns-clause-tells : goal.returns-clause-tells
returns-clause-tells c = words_tell

pub returns-clause-ends : goal.returns-clause-ends
returns-clause-ends c = items_end
