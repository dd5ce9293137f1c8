use Rattle.law_leases.proofs.Paged.{steps_advance}
use Rattle.law_leases.proofs.laws.steps_with_their_pages_are_turns.Goals as goal

pub returns : goal.returns
returns c = steps_advance
