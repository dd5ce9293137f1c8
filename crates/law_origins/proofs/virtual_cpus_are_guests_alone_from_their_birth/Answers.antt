use Rattle.law_origins.proofs.Lives.{guests_alone}
use Rattle.law_origins.proofs.virtual_cpus_are_guests_alone_from_their_birth.Goals as goal

pub returns : goal.returns
returns c = guests_alone
