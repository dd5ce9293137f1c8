use Rattle.law_renaming.proofs.Comparing.{equal_ends}
use Rattle.law_renaming.proofs.equal_guests_end_renamed.Goals as goal

pub returns-clause-guests : goal.returns-clause-guests
returns-clause-guests c = λ u v is js inputs pairs equal fit. (equal_ends u v is js inputs pairs equal fit).guests

pub returns-clause-outs : goal.returns-clause-outs
returns-clause-outs c = λ u v is js inputs pairs equal fit. (equal_ends u v is js inputs pairs equal fit).outs
