use Rattle.law_turns.proofs.Paid.{each_paid}
use Rattle.law_turns.proofs.Ticks.{clocks_are_turns, ticks_are_turns, turns_are_counts, turns_are_counted}
use Rattle.law_turns.proofs.scheduling.ticks_count_turns.Goals as goal

pub returns-clause-each : goal.returns-clause-each
returns-clause-each c = each_paid

pub returns-clause-sum : goal.returns-clause-sum
returns-clause-sum c = ticks_are_turns

pub returns-clause-counts : goal.returns-clause-counts
returns-clause-counts c = turns_are_counts

pub returns-clause-clocks : goal.returns-clause-clocks
returns-clause-clocks c = clocks_are_turns

pub returns-clause-all : goal.returns-clause-all
returns-clause-all c = turns_are_counted
