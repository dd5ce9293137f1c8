use Rattle.std.proofs.Common.{rules, ◌≡◌, ◌∙◌, ◌<◌, ℕ, List, ap, ap₂, sym, subst}
use Rattle.std.specs.Prelude.{Some, None}
use Rattle.std.specs.List.{find}
use Rattle.nova_model.specs.Delegations.{with_id}
use Rattle.nova_model.specs.Forest.{ArePairs}
use Rattle.nova_model.specs.declared.delegation.Derivation.{Derivation}
use Rattle.nova_nodes.specs.declared.node.Node.{Node}
use Rattle.nova_nodes.specs.Links.{AreLinked, LinkedState, derivations, left}
use Rattle.nova_nodes.specs.Stores.{StoreState, is_number, node_id}
use Rattle.nova_nodes.proofs.Changes.{no_node, node_facts, none_goes}
use Rattle.nova_nodes.proofs.Most.{others, rising_others}
use Rattle.nova_nodes.proofs.Unlinking.{but, links_less, thrice}
use Rattle.nova_nodes.proofs.linked.Linked.remove.Goals as goal

-- the same state with other derivations
abbrev holding : LinkedState → List Derivation → LinkedState
holding s ds = record s { list = ds }

pub returns-in_default : goal.returns-in_default
returns-in_default c =
    let list = c.args.self.now.list in
    let nodes = c.self.inside.store.nodes in
    let seen : c.args.self.now.list ≡ derivations nodes = search rules in
    let none : find (is_number node_id c.args.id) nodes ≡ None = search rules in
    let absent : with_id list c.args.id ≡ None = ap (λ (ds : List Derivation). with_id ds c.args.id) seen ∙ no_node nodes c.args.id none in
    ap (holding c.args.self.now) (sym (none_goes c.args.id list absent))

pub invariant_of-self : goal.invariant_of-self
invariant_of-self c =
    let nodes = c.self.inside.store.nodes in
    let seen : c.args.self.now.list ≡ derivations nodes = search rules in
    let y = c.in-Some.gone in
    let some : find (is_number node_id c.args.id) nodes ≡ Some y = search rules in
    let facts = node_facts nodes c.args.id y c.self.invariant.0 some in
    let passed : c.pass-3.new.store.nodes ≡ thrice (left y) y.derivation.parent y.older y.younger nodes = search rules in
    let after : c.remove.new.self.nodes ≡ but y.derivation.id (thrice (left y) y.derivation.parent y.older y.younger nodes) =
    ap (λ (s : StoreState). s.nodes) c.remove.ensures ∙ ap (but c.args.id) passed ∙ ap (λ k. but k (thrice (left y) y.derivation.parent y.older y.younger nodes)) (sym facts.its_id) in
    let done = links_less nodes y c.self.invariant.1 c.self.invariant.0 facts.there in
    let rising = rising_others y.derivation.id (derivations nodes) c.self.invariant.1 in (
      subst (λ (ns : List Node). AreLinked ns) (sym after) done.linked,
      subst (λ (ds : List Derivation). ArePairs (λ a b. a.id < b.id) ds) (sym (ap derivations after ∙ done.derivations)) rising,
    )

pub returns : goal.returns
returns c =
    let nodes = c.self.inside.store.nodes in
    let seen : c.args.self.now.list ≡ derivations nodes = search rules in
    let y = c.in-Some.gone in
    let some : find (is_number node_id c.args.id) nodes ≡ Some y = search rules in
    let facts = node_facts nodes c.args.id y c.self.invariant.0 some in
    let passed : c.pass-3.new.store.nodes ≡ thrice (left y) y.derivation.parent y.older y.younger nodes = search rules in
    let after : c.remove.new.self.nodes ≡ but y.derivation.id (thrice (left y) y.derivation.parent y.older y.younger nodes) =
    ap (λ (s : StoreState). s.nodes) c.remove.ensures ∙ ap (but c.args.id) passed ∙ ap (λ k. but k (thrice (left y) y.derivation.parent y.older y.younger nodes)) (sym facts.its_id) in
    let done = links_less nodes y c.self.invariant.1 c.self.invariant.0 facts.there in
    let made : List Derivation → ℕ → LinkedState = λ ds s. record { list = ds; spare = s } in
    let spare : c.remove.new.self.spare ≡ c.args.self.now.spare = search rules in
    ap₂ made (ap derivations after ∙ done.derivations ∙ ap (λ k. others k (derivations nodes)) facts.its_id ∙ ap (others c.args.id) (sym seen)) spare
