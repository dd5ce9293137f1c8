use Rattle.nova_ec.proofs.Changes.{others_stay_twice}
use Rattle.nova_ec.proofs.laws.others_stay_twice.Goals as goal

pub returns : goal.returns
returns c = others_stay_twice
