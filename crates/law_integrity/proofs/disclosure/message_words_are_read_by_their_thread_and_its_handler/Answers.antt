use Rattle.law_integrity.proofs.Unread.{event_same, trace_same, turn_differ, turns_differ}
use Rattle.law_integrity.proofs.disclosure.message_words_are_read_by_their_thread_and_its_handler.Goals as goal

pub returns-clause-turn : goal.returns-clause-turn
returns-clause-turn c = turn_differ

pub returns-clause-event : goal.returns-clause-event
returns-clause-event c = event_same

pub returns-clause-turns : goal.returns-clause-turns
returns-clause-turns c = turns_differ

pub returns-clause-events : goal.returns-clause-events
returns-clause-events c = trace_same
