use Rattle.std.proofs.Common.{rules, ◌≡◌, ◌∙◌, List, ap, sym, subst}
use Rattle.std.specs.Prelude.{Option, Some, None, IsSome, option_map}
use Rattle.std.specs.List.{find}
use Rattle.nova_model.specs.Delegations.{id_of, newest_child, with_id}
use Rattle.nova_model.specs.declared.delegation.Derivation.{Derivation}
use Rattle.nova_nodes.specs.Links.{derivations}
use Rattle.nova_nodes.specs.Stores.{is_number, node_id}
use Rattle.nova_nodes.proofs.Changes.{no_node, node_facts}
use Rattle.nova_nodes.proofs.linked.Linked.newest.Goals as goal

pub returns-in_err-get-clause-found : goal.returns-in_err-get-clause-found
returns-in_err-get-clause-found c = λ there.
    let list = c.args.self.now.list in
    let nodes = c.self.inside.store.nodes in
    let seen : c.args.self.now.list ≡ derivations nodes = search rules in
    let none : find (is_number node_id c.args.id) nodes ≡ None = search rules in
    let absent : with_id list c.args.id ≡ None = ap (λ (ds : List Derivation). with_id ds c.args.id) seen ∙ no_node nodes c.args.id none in
    let nothing = subst (λ (o : Option Derivation). IsSome o) absent there in
    absurd (cc)

pub returns-clause-found : goal.returns-clause-found
returns-clause-found c = λ there.
    let list = c.args.self.now.list in
    let nodes = c.self.inside.store.nodes in
    let seen : c.args.self.now.list ≡ derivations nodes = search rules in
    let some : find (is_number node_id c.args.id) nodes ≡ Some c.in_ok-get.field-0 = search rules in
    (node_facts nodes c.args.id c.in_ok-get.field-0 c.self.invariant.0 some).newest ∙ ap (λ (ds : List Derivation). option_map id_of (newest_child ds c.args.id)) (sym seen)

pub returns-clause-absent : goal.returns-clause-absent
returns-clause-absent c = λ none.
    let list = c.args.self.now.list in
    let nodes = c.self.inside.store.nodes in
    let seen : c.args.self.now.list ≡ derivations nodes = search rules in
    let some : find (is_number node_id c.args.id) nodes ≡ Some c.in_ok-get.field-0 = search rules in
    let found = (node_facts nodes c.args.id c.in_ok-get.field-0 c.self.invariant.0 some).found in
    let absent : with_id (derivations nodes) c.args.id ≡ None = ap (λ (ds : List Derivation). with_id ds c.args.id) (sym seen) ∙ none in
    absurd (cc)
