use Rattle.std.proofs.Common.{rules, refl, ◌≡◌, ◌∙◌, ◌<◌, ◌++◌, ◌∷◌, [], ◌-◌, ℕ, List, ap, ap₂, sym, subst}
use Rattle.std.specs.Prelude.{map, Option, IfSome, IsSome, option_map}
use Rattle.std.specs.List.{AllByRecursion}
use Rattle.nova_model.specs.Delegations.{id_of, newest_child, with_id}
use Rattle.nova_model.specs.Forest.{ArePairs, IsChildless}
use Rattle.nova_model.specs.declared.delegation.Derivation.{Derivation}
use Rattle.nova_nodes.specs.declared.node.Node.{Node}
use Rattle.nova_nodes.specs.Links.{AreLinked, LinkedState, changed_at, derivations, joined}
use Rattle.nova_nodes.proofs.Changes.{changed_ids, of_derivations}
use Rattle.nova_nodes.proofs.Linking.{IsLast, first_facts, links_more, new_node}
use Rattle.nova_nodes.proofs.Slots.{pairs_more}
use Rattle.nova_nodes.proofs.linked.Linked.push.Goals as goal

pub push-requires-clause-last : goal.push-requires-clause-last
push-requires-clause-last c =
    let list = c.args.self.now.list in
    let nodes = c.self.inside.store.nodes in
    let seen : c.args.self.now.list ≡ derivations nodes = search rules in
    let x = c.args.x in
    let first = c.newest_of-older.result in
    let after : c.join-2.new.store.nodes ≡ map (changed_at (joined x) first) (map (changed_at (joined x) x.parent) nodes) = search rules in
    let last = subst (λ (ds : List Derivation). AllByRecursion (λ a. a.id < x.id) ds) seen c.requires.last in
    subst (λ (ns : List Node). AllByRecursion (λ n. n.derivation.id < x.id) ns) (sym after)
    (changed_ids (λ id. id < x.id) (joined x) first (map (changed_at (joined x) x.parent) nodes) (λ n. refl)
    (changed_ids (λ id. id < x.id) (joined x) x.parent nodes (λ n. refl) (of_derivations (λ id. id < x.id) nodes last)))

pub invariant_of-self : goal.invariant_of-self
invariant_of-self c =
    let list = c.args.self.now.list in
    let nodes = c.self.inside.store.nodes in
    let seen : c.args.self.now.list ≡ derivations nodes = search rules in
    let x = c.args.x in
    let first = c.newest_of-older.result in
    let after : c.push.new.self.nodes ≡ map (changed_at (joined x) first) (map (changed_at (joined x) x.parent) nodes) ++ new_node x first ∷ [] = search rules in
    let above = subst (λ (ds : List Derivation). AllByRecursion (λ a. a.id < x.id) ds) seen c.requires.last in
    let last : IsLast (derivations nodes) x = record {
      above = above;
      childless = subst (λ (ds : List Derivation). IsChildless ds x.id) seen c.requires.childless;
      parent = subst (λ (ds : List Derivation). IfSome x.parent (λ p. IsSome (with_id ds p))) seen c.requires.parent;
    } in
    let most = first_facts (derivations nodes) x.parent first c.newest_of-older.ensures.none (λ p is.
    let there : IsSome (with_id (derivations nodes) p) = subst (λ (o : Option ℕ). IfSome o (λ q. IsSome (with_id (derivations nodes) q))) is last.parent in
    c.newest_of-older.ensures.some p is (subst (λ (ds : List Derivation). IsSome (with_id ds p)) (sym seen) there)
    ∙ ap (λ (ds : List Derivation). option_map id_of (newest_child ds p)) seen) in
    let done = links_more nodes x first c.self.invariant.1 c.self.invariant.0 last most in
    let rising = pairs_more (λ (a b : Derivation). a.id < b.id) (derivations nodes) x c.self.invariant.1 above in (
      subst (λ (ns : List Node). AreLinked ns) (sym after) done.linked,
      subst (λ (ds : List Derivation). ArePairs (λ a b. a.id < b.id) ds) (sym (ap derivations after ∙ done.derivations)) rising,
    )

pub returns : goal.returns
returns c =
    let list = c.args.self.now.list in
    let nodes = c.self.inside.store.nodes in
    let seen : c.args.self.now.list ≡ derivations nodes = search rules in
    let x = c.args.x in
    let first = c.newest_of-older.result in
    let after : c.push.new.self.nodes ≡ map (changed_at (joined x) first) (map (changed_at (joined x) x.parent) nodes) ++ new_node x first ∷ [] = search rules in
    let above = subst (λ (ds : List Derivation). AllByRecursion (λ a. a.id < x.id) ds) seen c.requires.last in
    let last : IsLast (derivations nodes) x = record {
      above = above;
      childless = subst (λ (ds : List Derivation). IsChildless ds x.id) seen c.requires.childless;
      parent = subst (λ (ds : List Derivation). IfSome x.parent (λ p. IsSome (with_id ds p))) seen c.requires.parent;
    } in
    let most = first_facts (derivations nodes) x.parent first c.newest_of-older.ensures.none (λ p is.
    let there : IsSome (with_id (derivations nodes) p) = subst (λ (o : Option ℕ). IfSome o (λ q. IsSome (with_id (derivations nodes) q))) is last.parent in
    c.newest_of-older.ensures.some p is (subst (λ (ds : List Derivation). IsSome (with_id ds p)) (sym seen) there)
    ∙ ap (λ (ds : List Derivation). option_map id_of (newest_child ds p)) seen) in
    let done = links_more nodes x first c.self.invariant.1 c.self.invariant.0 last most in
    let made : List Derivation → ℕ → LinkedState = λ ds s. record { list = ds; spare = s } in
    let spare : c.push.new.self.spare ≡ c.args.self.now.spare - 1 = search rules in
    ap₂ made (ap derivations after ∙ done.derivations ∙ ap (λ (ds : List Derivation). ds ++ x ∷ []) (sym seen)) spare
