use Rattle.law_integrity.proofs.Exposing.{exit_differs}
use Rattle.law_integrity.proofs.Instructing.{both_instructions}
use Rattle.law_integrity.proofs.Telling.{event_same, trace_same, turn_differ, turns_differ}
use Rattle.law_integrity.proofs.disclosure.registers_are_told_by_exits_calls_and_stores.Goals as goal

pub returns-clause-turn : goal.returns-clause-turn
returns-clause-turn c = turn_differ

pub returns-clause-event : goal.returns-clause-event
returns-clause-event c = event_same

pub returns-clause-turns : goal.returns-clause-turns
returns-clause-turns c = turns_differ

pub returns-clause-events : goal.returns-clause-events
returns-clause-events c = trace_same

pub returns-clause-exit : goal.returns-clause-exit
returns-clause-exit c = exit_differs

pub returns-clause-instruction : goal.returns-clause-instruction
returns-clause-instruction c = λ k l cpu g differ acts at also. (both_instructions k l cpu g differ acts at also).0

pub returns-clause-words : goal.returns-clause-words
returns-clause-words c = λ k l cpu g differ acts at also. (both_instructions k l cpu g differ acts at also).1

pub returns-clause-store : goal.returns-clause-store
returns-clause-store c = λ k l cpu g differ acts at also. (both_instructions k l cpu g differ acts at also).2

pub returns-clause-frames : goal.returns-clause-frames
returns-clause-frames c = λ k l cpu g differ acts at also. (both_instructions k l cpu g differ acts at also).3
