use Rattle.law_isolation.proofs.Runs.{own_is_one}
use Rattle.law_isolation.proofs.a_guests_own_turn_is_its_own_alone.Goals as goal

pub returns : goal.returns
returns c = own_is_one
