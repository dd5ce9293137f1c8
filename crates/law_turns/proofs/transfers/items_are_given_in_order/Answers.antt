use Rattle.law_turns.proofs.Ordered.{items_present, items_begin, items_stay}
use Rattle.law_turns.proofs.ItemsInOrder.{items_go_on}
use Rattle.law_turns.proofs.transfers.items_are_given_in_order.Goals as goal

pub returns-clause-present : goal.returns-clause-present
returns-clause-present c = items_present

pub returns-clause-begins : goal.returns-clause-begins
returns-clause-begins c = items_begin

pub returns-clause-stay : goal.returns-clause-stay
returns-clause-stay c = items_stay

pub returns-clause-goes_on : goal.returns-clause-goes_on
returns-clause-goes_on c = items_go_on
