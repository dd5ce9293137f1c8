use Rattle.law_integrity.proofs.Unwritten.{unwritten_stays}
use Rattle.law_integrity.proofs.rights.frames_that_nobody_may_write_stay.Goals as goal

pub returns : goal.returns
returns c k turns frame at = rw at.is (unwritten_stays at.scenario at.before turns frame)
