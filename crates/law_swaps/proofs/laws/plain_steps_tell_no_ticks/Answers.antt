use Rattle.law_swaps.proofs.Plain.{tells_none}
use Rattle.law_swaps.proofs.Telling.{told_same}
use Rattle.law_swaps.proofs.laws.plain_steps_tell_no_ticks.Goals as goal

pub returns-clause-plain : goal.returns-clause-plain
returns-clause-plain c = tells_none

pub returns-clause-alike : goal.returns-clause-alike
returns-clause-alike c = told_same
