use Rattle.std.proofs.Common.{rules, ◌≡◌, ◌∙◌, ap, sym, List}
use Rattle.std.specs.Prelude.{option_map}
use Rattle.nova_model.specs.Delegations.{Delegations, id_of, newest_child}
use Rattle.nova_model.specs.declared.delegation.Derivation.{Derivation}
use Rattle.nova_nodes.proofs.Members.{newest_whole}
use Rattle.nova_nodes.proofs.nodes.Nodes.newest_child.Goals as goal

pub returns-clause-found : goal.returns-clause-found
returns-clause-found g c =
    let f : Delegations = record { list = c.self.inside.list.list; next = c.self.inside.next } in
    let seen : c.args.self.now.delegations.list ≡ f.list = search rules in
    newest_whole f c.args.id c.newest.result c.self.invariant.0.forest c.newest.ensures.found c.newest.ensures.absent
    ∙ ap (λ (ds : List Derivation). option_map id_of (newest_child ds c.args.id)) (sym seen)
