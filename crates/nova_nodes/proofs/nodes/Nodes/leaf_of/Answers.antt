use Rattle.std.proofs.Common.{rules, arith, ◌≡◌, ◌<◌, ◌∙◌, sym, subst}
use Rattle.std.specs.Prelude.{Some, None, option_map}
use Rattle.nova_model.specs.Delegations.{id_of, newest_child, with_id}
use Rattle.nova_model.specs.declared.delegation.Derivation.{Derivation}
use Rattle.law_forest.proofs.Members.{IsIn, in_from_contains}
use Rattle.nova_nodes.specs.Trails.{Here, IsOnWay}
use Rattle.nova_nodes.proofs.Ways.{below_next, looked, way_ends, way_on}
use Rattle.nova_nodes.proofs.nodes.Nodes.leaf_of.Goals as goal

pub loop-child-init : goal.loop-child-init
loop-child-init g c =
    let i = in_from_contains c.args.self.now.delegations.list c.args.from c.requires in
    record { at = Here c.args.from; at_there = i }

pub unreachable-requires : goal.unreachable-requires
unreachable-requires g c =
    let f = c.args.self.now.delegations in
    let newest : Some c.in-Some.child ≡ option_map id_of (newest_child f.list c.loop-child.at.id) = search rules in
    let none : None ≡ with_id f.list c.in-Some.child = search rules in
    let l = looked f c.newest_child.ensures.sound.forest c.loop-child.at c.loop-child.invariant.at_there c.in-Some.child newest in
    let found = l.found in
    absurd (cc)

pub loop-child-smaller : goal.loop-child-smaller
loop-child-smaller g c =
    let f = c.args.self.now.delegations in
    let forest = c.newest_child.ensures.sound.forest in
    let newest : Some c.in-Some.child ≡ option_map id_of (newest_child f.list c.loop-child.at.id) = search rules in
    let is : with_id f.list c.in-Some.child ≡ Some c.in-Some-get.c = search rules in
    let l = looked f forest c.loop-child.at c.loop-child.invariant.at_there c.in-Some.child newest in
    let both : Some l.child ≡ Some c.in-Some-get.c = sym l.found ∙ is in
    let same : l.child ≡ c.in-Some-get.c = cc in
    let later = subst (λ (d : Derivation). c.loop-child.at.id < d.id) same l.step.later in
    let below = subst (λ (d : Derivation). d.id < f.next) same (below_next f forest l.child l.step.there) in
    omega arith

pub loop-child-preserved : goal.loop-child-preserved
loop-child-preserved g c =
    let f = c.args.self.now.delegations in
    let forest = c.newest_child.ensures.sound.forest in
    let newest : Some c.in-Some.child ≡ option_map id_of (newest_child f.list c.loop-child.at.id) = search rules in
    let is : with_id f.list c.in-Some.child ≡ Some c.in-Some-get.c = search rules in
    let l = looked f forest c.loop-child.at c.loop-child.invariant.at_there c.in-Some.child newest in
    let both : Some l.child ≡ Some c.in-Some-get.c = sym l.found ∙ is in
    let same : l.child ≡ c.in-Some-get.c = cc in
    record {
      at = subst (λ (d : Derivation). IsOnWay f.list c.args.from d) same (way_on f.list c.args.from c.loop-child.at l.child c.loop-child.invariant.at l.newest);
      at_there = subst (λ (d : Derivation). IsIn f.list d) same l.step.there;
    }

pub returns-clause-leaf : goal.returns-clause-leaf
returns-clause-leaf g c =
    let f = c.args.self.now.delegations in
    let i = in_from_contains f.list c.args.from c.requires in
    let last : newest_child f.list c.loop-child.at.id ≡ None = search rules in
    way_ends f c.newest_child.ensures.sound.forest c.args.from c.loop-child.at i c.loop-child.invariant.at last
