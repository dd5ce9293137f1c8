use Rattle.law_integrity.proofs.Secrets.{trace_same, turn_same, turns_same}
use Rattle.law_integrity.proofs.secrecy.hidden_bytes_tell_nothing.Goals as goal

pub returns-clause-turn : goal.returns-clause-turn
returns-clause-turn c = turn_same

pub returns-clause-turns : goal.returns-clause-turns
returns-clause-turns c = turns_same

pub returns-clause-events : goal.returns-clause-events
returns-clause-events c = trace_same
