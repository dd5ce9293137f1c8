use Rattle.law_integrity.proofs.Waits.{has_come}
use Rattle.law_integrity.proofs.callers.callers_came_by_right.Goals as goal

pub returns : goal.returns
returns c = has_come
