use Rattle.law_response.proofs.Creating.{nobody_later, nothing_made}
use Rattle.law_response.proofs.nothing_is_made_without_the_right_to_create.Goals as goal

pub returns-clause-objects : goal.returns-clause-objects
returns-clause-objects c = nothing_made

pub returns-clause-stays : goal.returns-clause-stays
returns-clause-stays c = nobody_later
