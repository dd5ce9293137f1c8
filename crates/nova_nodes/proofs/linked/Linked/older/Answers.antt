use Rattle.std.proofs.Common.{rules, ◌≡◌, ◌∙◌, List, ap, sym, subst}
use Rattle.std.specs.Prelude.{Option, Some, None, IfSome, option_map}
use Rattle.std.specs.List.{find}
use Rattle.nova_model.specs.Delegations.{id_of, older_child, with_id}
use Rattle.nova_model.specs.declared.delegation.Derivation.{Derivation}
use Rattle.nova_nodes.specs.Links.{derivations}
use Rattle.nova_nodes.specs.Stores.{is_number, node_id}
use Rattle.nova_nodes.proofs.Changes.{no_node, node_facts}
use Rattle.nova_nodes.proofs.linked.Linked.older.Goals as goal

pub returns-in_err-get : goal.returns-in_err-get
returns-in_err-get c =
    let list = c.args.self.now.list in
    let nodes = c.self.inside.store.nodes in
    let seen : c.args.self.now.list ≡ derivations nodes = search rules in
    let none : find (is_number node_id c.args.id) nodes ≡ None = search rules in
    let absent : with_id list c.args.id ≡ None = ap (λ (ds : List Derivation). with_id ds c.args.id) seen ∙ no_node nodes c.args.id none in
    subst (λ (o : Option Derivation). IfSome o (λ d. c.from_residual.result ≡ option_map id_of (older_child list d))) (sym absent) tt

pub returns : goal.returns
returns c =
    let list = c.args.self.now.list in
    let nodes = c.self.inside.store.nodes in
    let seen : c.args.self.now.list ≡ derivations nodes = search rules in
    let some : find (is_number node_id c.args.id) nodes ≡ Some c.in_ok-get.field-0 = search rules in
    let facts = node_facts nodes c.args.id c.in_ok-get.field-0 c.self.invariant.0 some in
    subst (λ (ds : List Derivation). IfSome (with_id ds c.args.id) (λ d. c.in_ok-get.field-0.older ≡ option_map id_of (older_child ds d))) (sym seen)
    (subst (λ (o : Option Derivation). IfSome o (λ d. c.in_ok-get.field-0.older ≡ option_map id_of (older_child (derivations nodes) d))) (sym facts.found) facts.older)
