use Rattle.law_turns.proofs.Rotation.{pass_round, rounds_go}
use Rattle.law_turns.proofs.rounds.round_robin_goes_round.Goals as goal

pub returns-clause-once : goal.returns-clause-once
returns-clause-once c = pass_round

pub returns-clause-again : goal.returns-clause-again
returns-clause-again c = rounds_go
