use Rattle.std.proofs.Common.{refl}
use Rattle.nova_model.specs.AddressSpaces.{space}
use Rattle.nova_model.specs.Deeds.{address_space}
use Rattle.law_origins.proofs.Reachable.{reachable_sound}
use Rattle.law_integrity.proofs.Spaces.{space_is}
use Rattle.law_integrity.proofs.seeing.instructions_see_what_their_domain_reaches.Goals as goal

pub returns : goal.returns
returns c = λ k ec at. (space (address_space k ec), refl, space_is k ec (reachable_sound k at).forest)
