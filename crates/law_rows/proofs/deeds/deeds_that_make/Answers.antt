use Rattle.law_rows.proofs.Sizes.{no_more}
use Rattle.law_rows.proofs.deeds.deeds_that_make.Goals as goal

pub returns-clause-no_more : goal.returns-clause-no_more
returns-clause-no_more c = no_more
