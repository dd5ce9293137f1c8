use Rattle.law_turns.proofs.Dues.{due_is}
use Rattle.law_turns.proofs.Moments.{each_entry, first_entry, has_entries, no_entry}
use Rattle.law_turns.proofs.times.the_first_that_is_to_come_is_due.Goals as goal

pub returns-clause-entries : goal.returns-clause-entries
returns-clause-entries c = each_entry

pub returns-clause-all : goal.returns-clause-all
returns-clause-all c = has_entries

pub returns-clause-first : goal.returns-clause-first
returns-clause-first c = first_entry

pub returns-clause-none : goal.returns-clause-none
returns-clause-none c = no_entry

pub returns-clause-due : goal.returns-clause-due
returns-clause-due c = due_is
