use Rattle.law_turns.proofs.Traces.{events_on, as_many_events, event_at, ticks_given}
use Rattle.law_turns.proofs.events.a_trace_has_an_event_a_turn.Goals as goal

pub returns-clause-processors : goal.returns-clause-processors
returns-clause-processors c = events_on

pub returns-clause-as_many : goal.returns-clause-as_many
returns-clause-as_many c = as_many_events

pub returns-clause-turns : goal.returns-clause-turns
returns-clause-turns c = event_at

pub returns-clause-ticks : goal.returns-clause-ticks
returns-clause-ticks c = ticks_given
