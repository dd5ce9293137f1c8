use Rattle.std.proofs.Common.{rules, ◌≡◌, ◌∙◌, List, ap, sym, subst}
use Rattle.std.specs.Prelude.{Contains, None}
use Rattle.nova_model.specs.Delegations.{Delegations, newest_child}
use Rattle.nova_model.specs.Revokes.{leaf_by}
use Rattle.nova_model.specs.declared.delegation.Derivation.{Derivation}
use Rattle.law_forest.proofs.Members.{in_from_contains}
use Rattle.nova_nodes.specs.Trails.{IsOnWay, IsTrail}
use Rattle.nova_nodes.proofs.Ways.{trail_gone, way_ends, way_through}
use Rattle.nova_nodes.proofs.nodes.Nodes.leaf_below.Goals as goal

pub invariant_of-self : goal.invariant_of-self
invariant_of-self g c =
    let f : Delegations = record { list = c.self.inside.list.list; next = c.self.inside.next } in
    let from = c.args.from in
    let seen : c.args.self.now.delegations.list ≡ f.list = search rules in
    let i = in_from_contains f.list from (subst (λ (ds : List Derivation). Contains ds from) seen c.requires) in
    let way = subst (λ (ds : List Derivation). IsOnWay ds from c.leaf_of-leaf.result) seen (way_through c.args.self.now.delegations.list from c.resume-start.result c.leaf_of-leaf.result c.resume-start.ensures.way c.leaf_of-leaf.ensures.way) in
    let trail = subst (λ at. IsTrail f (record { from = from.id; at = at; next = f.next })) (sym c.step_back.ensures) (trail_gone f from c.leaf_of-leaf.result c.self.invariant.0.forest i way) in
    (c.self.invariant.0, (c.self.invariant.1.0, (c.self.invariant.1.1.0, (c.self.invariant.1.1.1.0, trail))))

pub returns-clause-leaf : goal.returns-clause-leaf
returns-clause-leaf g c =
    let f : Delegations = record { list = c.self.inside.list.list; next = c.self.inside.next } in
    let from = c.args.from in
    let seen : c.args.self.now.delegations ≡ f = search rules in
    let i = in_from_contains f.list from (subst (λ (h : Delegations). Contains h.list from) seen c.requires) in
    let way = subst (λ (h : Delegations). IsOnWay h.list from c.leaf_of-leaf.result) seen (way_through c.args.self.now.delegations.list from c.resume-start.result c.leaf_of-leaf.result c.resume-start.ensures.way c.leaf_of-leaf.ensures.way) in
    let last = subst (λ (h : Delegations). newest_child h.list c.leaf_of-leaf.result.id ≡ None) seen c.leaf_of-leaf.ensures.last in
    way_ends f c.self.invariant.0.forest from c.leaf_of-leaf.result i way last ∙ ap (λ (h : Delegations). leaf_by h.next h.list from) (sym seen)
