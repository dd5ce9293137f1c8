use Rattle.std.proofs.Common.{rules, ◌≡◌, ◌∙◌, ap, sym, List}
use Rattle.std.specs.List.{find}
use Rattle.nova_model.specs.Delegations.{Delegations, from_id, is_from}
use Rattle.nova_model.specs.declared.delegation.Derivation.{Derivation}
use Rattle.nova_nodes.proofs.Rising.{least_found}
use Rattle.nova_nodes.proofs.Members.{found_placed}
use Rattle.nova_nodes.proofs.nodes.Nodes.from_id.Goals as goal

pub returns-clause-found : goal.returns-clause-found
returns-clause-found g c =
    let list = c.self.inside.list.list in
    let seen : c.args.self.now.delegations.list ≡ list = search rules in
    let gives : c.from_id.result ≡ find (is_from c.args.id) list = search rules in
    gives ∙ sym (least_found c.args.id list c.self.invariant.0.forest.rising) ∙ ap (λ (ds : List Derivation). from_id ds c.args.id) (sym seen)

pub returns-clause-placed : goal.returns-clause-placed
returns-clause-placed g c =
    let f : Delegations = record { list = c.self.inside.list.list; next = c.self.inside.next } in
    found_placed (is_from c.args.id) f c.from_id.result c.self.invariant.0 c.from_id.ensures
