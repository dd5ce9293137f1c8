use Rattle.law_forest.proofs.Members.{in_from_contains}
use Rattle.law_forest.proofs.Scopes.{decided}
use Rattle.law_forest.proofs.revokes.the_scope_is_its_tops_and_their_descendants.Goals as goal

pub returns : goal.returns
returns c = λ r f d forest there. decided r f forest d (in_from_contains f.list d there)
