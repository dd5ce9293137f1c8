use Rattle.law_leases.proofs.Leasing.{runs}
use Rattle.law_leases.proofs.laws.steps_on_copies_are_the_guests_own.Goals as goal

pub returns : goal.returns
returns c = runs
