use Rattle.law_turns.proofs.Best.{choice_idle, choice_best}
use Rattle.law_turns.proofs.Stamps.{only_best}
use Rattle.law_turns.proofs.choice.the_best_is_chosen.Goals as goal

pub returns-clause-idle : goal.returns-clause-idle
returns-clause-idle c = choice_idle

pub returns-clause-best : goal.returns-clause-best
returns-clause-best c = choice_best

pub returns-clause-only : goal.returns-clause-only
returns-clause-only c = only_best
