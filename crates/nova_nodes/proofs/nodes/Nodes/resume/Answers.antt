use Rattle.std.proofs.Common.{rules, ◌≡◌, ◌∙◌, List, ap, sym, subst}
use Rattle.std.specs.Prelude.{Some, Contains, ◌==◌}
use Rattle.nova_model.specs.Delegations.{with_id}
use Rattle.nova_model.specs.declared.delegation.Derivation.{Derivation}
use Rattle.law_forest.proofs.Members.{contains_from_in, found_in, in_from_contains}
use Rattle.nova_nodes.specs.Trails.{Here, IsOnWay}
use Rattle.nova_nodes.proofs.Found.{with_its_id}
use Rattle.nova_nodes.proofs.nodes.Nodes.resume.Goals as goal

pub returns-in-Some-clause-way : goal.returns-in-Some-clause-way
returns-in-Some-clause-way g c =
    let list = c.self.inside.list.list in
    let from = c.args.from.now in
    let seen : c.args.self.now.delegations.list ≡ list = search rules in
    let there = subst (λ (ds : List Derivation). Contains ds from) seen c.requires.there in
    let its_from : c.self.inside.trail.from ≡ from.id = search rules in
    let its_next : c.self.inside.trail.next ≡ c.self.inside.next = search rules in
    let found : with_id list c.self.inside.trail.at ≡ Some c.in-Some.d = search rules in
    let first = ap (with_id list) its_from ∙ with_its_id list from c.self.invariant.0.forest.rising (in_from_contains list from there) in
    subst (λ (ds : List Derivation). IsOnWay ds from c.in-Some.d) (sym seen) (c.self.invariant.1.1.1.1.way its_next from c.in-Some.d first found)

pub returns-in-Some-clause-there : goal.returns-in-Some-clause-there
returns-in-Some-clause-there g c =
    let list = c.args.self.now.delegations.list in
    let found : with_id list c.self.inside.trail.at ≡ Some c.in-Some.d = search rules in
    contains_from_in list c.in-Some.d (found_in (λ (a : Derivation). a.id == c.self.inside.trail.at) list c.in-Some.d found).0

pub returns-in-None-clause-way : goal.returns-in-None-clause-way
returns-in-None-clause-way g c = Here c.args.from.now

pub returns-else-self-from-clause-way : goal.returns-else-self-from-clause-way
returns-else-self-from-clause-way g c = Here c.args.from.now
