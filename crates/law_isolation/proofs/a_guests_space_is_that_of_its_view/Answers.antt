use Rattle.law_isolation.proofs.Runs.{space_is_own}
use Rattle.law_isolation.proofs.a_guests_space_is_that_of_its_view.Goals as goal

pub returns : goal.returns
returns c = space_is_own
