use Rattle.nova_range.proofs.Words.{sound, only}
use Rattle.nova_range.proofs.laws.words_that_are_read.Goals as goal

pub returns-clause-sound : goal.returns-clause-sound
returns-clause-sound c = sound

pub returns-clause-only : goal.returns-clause-only
returns-clause-only c = only
