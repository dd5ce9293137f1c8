use Rattle.law_integrity.proofs.Limits.{has_set}
use Rattle.law_integrity.proofs.callers.deadlines_were_set_by_right.Goals as goal

pub returns : goal.returns
returns c = has_set
