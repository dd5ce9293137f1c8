use Rattle.nova_range.proofs.Words.{again, fits}
use Rattle.nova_range.proofs.laws.words_are_read_back.Goals as goal

pub returns-clause-again : goal.returns-clause-again
returns-clause-again c = again

pub returns-clause-fits : goal.returns-clause-fits
returns-clause-fits c = fits
