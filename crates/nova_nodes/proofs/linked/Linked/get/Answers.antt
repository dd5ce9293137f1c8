use Rattle.std.proofs.Common.{rules, ◌≡◌, ◌∙◌, List, ap, sym}
use Rattle.std.specs.Prelude.{◌==◌, Some, None, option_map}
use Rattle.std.specs.List.{find}
use Rattle.nova_model.specs.Delegations.{with_id}
use Rattle.nova_model.specs.declared.delegation.Derivation.{Derivation}
use Rattle.nova_nodes.specs.Links.{derivation_of, derivations}
use Rattle.nova_nodes.specs.Stores.{is_number, node_id}
use Rattle.nova_nodes.proofs.Changes.{found_derivation}
use Rattle.nova_nodes.proofs.linked.Linked.get.Goals as goal

pub returns-in_err-get : goal.returns-in_err-get
returns-in_err-get c =
    let list = c.args.self.now.list in
    let nodes = c.self.inside.store.nodes in
    let seen : c.args.self.now.list ≡ derivations nodes = search rules in
    let none : None ≡ find (is_number node_id c.args.id) nodes = search rules in
    let gives : c.from_residual.result ≡ None = search rules in
    gives ∙ ap (option_map derivation_of) none ∙ sym (found_derivation (λ (d : Derivation). d.id == c.args.id) nodes) ∙ ap (λ (ds : List Derivation). with_id ds c.args.id) (sym seen)

pub returns : goal.returns
returns c =
    let list = c.args.self.now.list in
    let nodes = c.self.inside.store.nodes in
    let seen : c.args.self.now.list ≡ derivations nodes = search rules in
    let some : Some c.in_ok-get.field-0 ≡ find (is_number node_id c.args.id) nodes = search rules in
    ap (option_map derivation_of) some ∙ sym (found_derivation (λ (d : Derivation). d.id == c.args.id) nodes) ∙ ap (λ (ds : List Derivation). with_id ds c.args.id) (sym seen)
