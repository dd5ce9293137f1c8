use Rattle.law_turns.proofs.Counting.{counts_children}
use Rattle.law_turns.proofs.Ending.{tells_children}
use Rattle.law_turns.proofs.transfers.an_item_counts_its_children.Goals as goal

pub returns-clause-counts : goal.returns-clause-counts
returns-clause-counts c = counts_children

pub returns-clause-tells : goal.returns-clause-tells
returns-clause-tells c = tells_children
