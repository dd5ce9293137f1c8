use Rattle.std.proofs.Common.{rules, arith, refl, ◌≡◌, ◌∙◌, ◌<◌, ◌≤◌, ◌++◌, ◌∷◌, [], ◌-◌, ℕ, List, ap, ap₂, sym, subst, length, length-append}
use Rattle.std.specs.Prelude.{take}
use Rattle.std.specs.List.{AllByRecursion}
use Rattle.std.proofs.lemmas.List.{length-take-le}
use Rattle.nova_nodes.specs.declared.node.Node.{Node}
use Rattle.nova_nodes.specs.declared.node.Place.{Place}
use Rattle.nova_nodes.specs.Stores.{AreInOrder, StoreState, nodes_at}
use Rattle.nova_nodes.proofs.Stores.{few_places, low_places, one_more}
use Rattle.nova_nodes.proofs.store.Store.push.Goals as goal

pub overflow_sub-self-2 : goal.overflow_sub-self-2
overflow_sub-self-2 c =
    let slab = c.self.inside.slab in
    let places = c.self.inside.places.items in
    let seen : c.args.self.now.nodes ≡ nodes_at slab places = search rules in
    let last = subst (λ (ns : List Node). AllByRecursion (λ n. n.derivation.id < c.args.node.derivation.id) ns) seen c.requires.last in
    let low : take c.point-end.result places ≡ low_places c.args.node.derivation.id places = search rules in
    let bound : c.point-end.result ≤ length places = search rules in
    let few = few_places slab places (take c.point-end.result places) c.args.node c.self.invariant.0 low last in
    let count = c.self.invariant.1.0 in
    let taken = length-take-le c.point-end.result places bound in
    omega (arith, few, count, taken)

pub invariant_of-self : goal.invariant_of-self
invariant_of-self c =
    let slab = c.self.inside.slab in
    let other = c.insert_reserved-key.new.self in
    let places = c.self.inside.places.items in
    let front = take c.point-end.result places in
    let new : Place = record { id = c.args.node.derivation.id; key = c.insert_reserved-key.result } in
    let seen : c.args.self.now.nodes ≡ nodes_at slab places = search rules in
    let last = subst (λ (ns : List Node). AllByRecursion (λ n. n.derivation.id < c.args.node.derivation.id) ns) seen c.requires.last in
    let low : front ≡ low_places c.args.node.derivation.id places = search rules in
    let bound : c.point-end.result ≤ length places = search rules in
    let few = few_places slab places front c.args.node c.self.invariant.0 low last in
    let more = one_more slab other places front new c.args.node c.self.invariant.0 low last refl c.insert_reserved-key.ensures.was_vacant c.insert_reserved-key.ensures.updates in
    let is : c.push_reserved.new.self.items ≡ front ++ new ∷ [] = search rules in
    let some : 0 < c.self.inside.spare = search rules in
    let count = c.self.invariant.1.0 in
    let room = c.self.invariant.1.1.0 in
    let more_room = c.self.invariant.1.1.1 in
    let taken = length-take-le c.point-end.result places bound in
    let nodes = ap (λ (ps : List Place). length (nodes_at other ps)) is ∙ ap length more.nodes ∙ length-append (nodes_at slab places) (c.args.node ∷ []) in
    let all = ap length is ∙ length-append front (new ∷ []) in (
      subst AreInOrder (sym is) more.order,
      (
        omega (arith, nodes, all, few, count, taken),
        (
          omega (arith, room, some, c.push_reserved.ensures.len, c.push_reserved.ensures.capacity, c.truncate.ensures.len, c.truncate.ensures.capacity),
          omega (arith, more_room, some, c.insert_reserved-key.ensures.len, c.insert_reserved-key.ensures.capacity),
        ),
      ),
    )

pub returns : goal.returns
returns c =
    let slab = c.self.inside.slab in
    let other = c.insert_reserved-key.new.self in
    let places = c.self.inside.places.items in
    let front = take c.point-end.result places in
    let new : Place = record { id = c.args.node.derivation.id; key = c.insert_reserved-key.result } in
    let seen : c.args.self.now.nodes ≡ nodes_at slab places = search rules in
    let last = subst (λ (ns : List Node). AllByRecursion (λ n. n.derivation.id < c.args.node.derivation.id) ns) seen c.requires.last in
    let low : front ≡ low_places c.args.node.derivation.id places = search rules in
    let more = one_more slab other places front new c.args.node c.self.invariant.0 low last refl c.insert_reserved-key.ensures.was_vacant c.insert_reserved-key.ensures.updates in
    let is : c.push_reserved.new.self.items ≡ front ++ new ∷ [] = search rules in
    let nodes : nodes_at other c.push_reserved.new.self.items ≡ c.args.self.now.nodes ++ c.args.node ∷ [] = ap (nodes_at other) is ∙ more.nodes ∙ ap (λ (l : List Node). l ++ c.args.node ∷ []) (sym seen) in
    let spare : c.self.inside.spare ≡ c.args.self.now.spare = search rules in
    let made : List Node → ℕ → StoreState = λ ns s. record { nodes = ns; spare = s - 1 } in
    ap₂ made nodes spare
