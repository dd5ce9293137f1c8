use Rattle.law_forest.proofs.Turning.{due_answers, due_turn, tick_answers, tick_turn}
use Rattle.law_turns.proofs.times.what_is_due_takes_the_turn.Goals as goal

pub returns-clause-state : goal.returns-clause-state
returns-clause-state c = due_turn

pub returns-clause-event : goal.returns-clause-event
returns-clause-event c = due_answers

pub returns-clause-tick : goal.returns-clause-tick
returns-clause-tick c = tick_answers

pub returns-clause-ticks : goal.returns-clause-ticks
returns-clause-ticks c = tick_turn
