use Rattle.law_turns.proofs.Quanta.{left_within}
use Rattle.law_turns.proofs.scheduling.what_is_left_is_within_its_quantum.Goals as goal

pub returns : goal.returns
returns c = left_within
