use Rattle.std.proofs.Common.{refl}
use Rattle.nova_flowing.specs.Deriving.{first_made}
use Rattle.nova_flowing.proofs.Deriving.{told_by}
use Rattle.nova_flowing.proofs.laws.what_others_hold_of_a_side_is_told.Goals as goal

pub returns : goal.returns
returns c = λ k S. told_by k S (first_made k.delegations.list S) refl
