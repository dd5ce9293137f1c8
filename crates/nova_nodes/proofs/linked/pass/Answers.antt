use Rattle.std.proofs.Common.{rules, refl, ◌≡◌, ◌∙◌, List, ap, sym}
use Rattle.std.specs.Prelude.{map, Some, None}
use Rattle.std.specs.List.{find}
use Rattle.nova_nodes.specs.declared.node.Node.{Node}
use Rattle.nova_nodes.specs.Links.{changed_at, left}
use Rattle.nova_nodes.specs.Stores.{StoreState, is_number, node_id, put}
use Rattle.nova_nodes.proofs.Changes.{changed_none, changed_nowhere, changed_put}
use Rattle.nova_nodes.proofs.linked.pass.Goals as goal

-- the same state with other nodes
abbrev having : StoreState → List Node → StoreState
having s ns = record s { nodes = ns }

pub returns-in_default : goal.returns-in_default
returns-in_default c =
    let nodes = c.args.store.now.nodes in
    ap (having c.args.store.now) (sym (ap (λ o. map (changed_at (left c.args.gone.now) o) nodes) c.in_default.is ∙ changed_none (left c.args.gone.now) nodes))

pub returns-in_default-get : goal.returns-in_default-get
returns-in_default-get c =
    let nodes = c.args.store.now.nodes in
    let none : find (is_number node_id c.in-Some.id) nodes ≡ None = search rules in
    ap (having c.args.store.now) (sym (ap (λ o. map (changed_at (left c.args.gone.now) o) nodes) c.in-Some.is ∙ changed_nowhere (left c.args.gone.now) c.in-Some.id nodes none))

pub returns : goal.returns
returns c =
    let nodes = c.args.store.now.nodes in
    let found : find (is_number node_id c.in-Some.id) nodes ≡ Some c.in-Some-get.node = search rules in
    let one = changed_put (left c.args.gone.now) c.in-Some.id c.in-Some-get.node nodes (λ n. refl) c.get.ensures.rising found in
    c.set.ensures ∙ ap (having c.args.store.now) (ap (λ m. map (put m) nodes) c.left.ensures ∙ one ∙ sym (ap (λ o. map (changed_at (left c.args.gone.now) o) nodes) c.in-Some.is))
