use Rattle.std.proofs.Common.{rules, ◌≡◌, sym, subst}
use Rattle.std.specs.Prelude.{Some, Option, IfSome, option_map, ◌==◌}
use Rattle.nova_model.specs.Delegations.{id_of, with_id, parent_of}
use Rattle.nova_model.specs.declared.delegation.Derivation.{Derivation}
use Rattle.law_forest.proofs.Members.{found_in}
use Rattle.nova_nodes.proofs.Kept.{parent_is}
use Rattle.nova_nodes.proofs.nodes.Nodes.parent.Goals as goal

pub returns-clause-found : goal.returns-clause-found
returns-clause-found g c =
    let f = c.args.self.now.delegations in
    let d = c.in-Some.d in
    let found : with_id f.list c.args.id ≡ Some d = search rules in
    let there = found_in (λ (a : Derivation). a.id == c.args.id) f.list d found in
    subst (λ (o : Option Derivation). IfSome o (λ a. d.parent ≡ option_map id_of (parent_of f.list a))) (sym found) (parent_is f d c.in-Some.ensures.sound.forest there.0)
