use Rattle.nova_utcb.proofs.CopyLaws.{again, passed}
use Rattle.nova_utcb.proofs.laws.copies_of_copies.Goals as goal

pub returns-clause-again : goal.returns-clause-again
returns-clause-again c = again

pub returns-clause-passed : goal.returns-clause-passed
returns-clause-passed c = passed
