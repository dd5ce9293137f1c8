use Rattle.law_sameness.proofs.Zero.{after_zero, run_zero}
use Rattle.law_sameness.proofs.laws.x0_is_always_zero.Goals as goal

pub returns-clause-reached : goal.returns-clause-reached
returns-clause-reached c = run_zero

pub returns-clause-turns : goal.returns-clause-turns
returns-clause-turns c = after_zero
