use Rattle.std.proofs.Common.{refl, subst}
use Rattle.nova_model.specs.Delegations.{Delegations}
use Rattle.nova_model.specs.Forest.{IsChildless}
use Rattle.nova_preview.proofs.next.leaf_deed.Goals as goal

pub returns-in-Some-next_leaf-clause-fits : goal.returns-in-Some-next_leaf-clause-fits
returns-in-Some-next_leaf-clause-fits c = λ k revoker same.
    (subst (λ (f : Delegations). IsChildless f.list c.in-Some-next_leaf.leaf.id) same c.in-Some-next_leaf.ensures.leaf.childless, refl)
