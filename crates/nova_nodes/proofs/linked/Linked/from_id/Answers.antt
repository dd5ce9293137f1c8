use Rattle.std.proofs.Common.{rules, ◌≡◌, ◌∙◌, ap, sym}
use Rattle.std.specs.Prelude.{Some, None, option_map}
use Rattle.std.specs.List.{find}
use Rattle.nova_model.specs.Delegations.{is_from}
use Rattle.nova_nodes.specs.Links.{derivation_of, derivations}
use Rattle.nova_nodes.specs.Stores.{is_after, node_id}
use Rattle.nova_nodes.proofs.Changes.{found_derivation}
use Rattle.nova_nodes.proofs.linked.Linked.from_id.Goals as goal

pub returns-in_err-from_id : goal.returns-in_err-from_id
returns-in_err-from_id c =
    let list = c.args.self.now.list in
    let nodes = c.self.inside.store.nodes in
    let seen : c.args.self.now.list ≡ derivations nodes = search rules in
    let none : None ≡ find (is_after node_id c.args.id) nodes = search rules in
    let gives : c.from_residual.result ≡ None = search rules in
    gives ∙ ap (option_map derivation_of) none ∙ sym (found_derivation (is_from c.args.id) nodes) ∙ ap (find (is_from c.args.id)) (sym seen)

pub returns : goal.returns
returns c =
    let list = c.args.self.now.list in
    let nodes = c.self.inside.store.nodes in
    let seen : c.args.self.now.list ≡ derivations nodes = search rules in
    let some : Some c.in_ok-from_id.field-0 ≡ find (is_after node_id c.args.id) nodes = search rules in
    ap (option_map derivation_of) some ∙ sym (found_derivation (is_from c.args.id) nodes) ∙ ap (find (is_from c.args.id)) (sym seen)
