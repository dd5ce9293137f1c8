use Rattle.law_turns.proofs.Leaving.{first_left, item_ends, nothing_left, part_given, part_skipped}
use Rattle.law_turns.proofs.transfers.what_is_left_is_given_next.Goals as goal

pub returns-clause-first : goal.returns-clause-first
returns-clause-first c = first_left

pub returns-clause-none : goal.returns-clause-none
returns-clause-none c = nothing_left

pub returns-clause-gives : goal.returns-clause-gives
returns-clause-gives c = part_given

pub returns-clause-skips : goal.returns-clause-skips
returns-clause-skips c = part_skipped

pub returns-clause-ends : goal.returns-clause-ends
returns-clause-ends c = item_ends
