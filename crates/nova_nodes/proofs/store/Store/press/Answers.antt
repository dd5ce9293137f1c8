use Rattle.std.proofs.Common.{rules, arith, ◌≡◌, ◌<◌, ◌∙◌, ℕ, List, ap, ap₂, sym, subst, length}
use Rattle.std.specs.Prelude.{is_some}
use Rattle.std.proofs.lemmas.Fn.{filter_same}
use Rattle.nova_nodes.specs.declared.node.Node.{Node}
use Rattle.nova_nodes.specs.declared.node.Place.{Place}
use Rattle.nova_nodes.specs.Stores.{AreInOrder, StoreState, node_at, nodes_at}
use Rattle.nova_nodes.proofs.Slots.{pairs_filter}
use Rattle.nova_nodes.proofs.Stores.{length_pressed, nodes_pressed, pressed}
use Rattle.nova_nodes.proofs.store.Store.press.Goals as goal

pub invariant_of-self : goal.invariant_of-self
invariant_of-self c =
    let slab = c.self.inside.slab in
    let places = c.self.inside.places.items in
    let is : c.retain.new.self.items ≡ pressed slab places = filter_same _ (λ (p : Place). is_some (node_at slab p)) _ (λ x b f' k. search rules) _ _ c.retain.ensures.filtered in
    let order = pairs_filter (λ (a b : Place). a.id < b.id) (λ (p : Place). is_some (node_at slab p)) places c.self.invariant.0 in
    let count = ap (λ (ps : List Place). length (nodes_at slab ps)) is ∙ length_pressed slab places ∙ ap length (sym is) in
    let room = c.self.invariant.1.1.0 in
    (subst AreInOrder (sym is) order, (omega (arith, count), (omega (arith, room, c.retain.ensures.bound, c.retain.ensures.capacity), c.self.invariant.1.1.1)))

pub returns : goal.returns
returns c =
    let slab = c.self.inside.slab in
    let places = c.self.inside.places.items in
    let is : c.retain.new.self.items ≡ pressed slab places = filter_same _ (λ (p : Place). is_some (node_at slab p)) _ (λ x b f' k. search rules) _ _ c.retain.ensures.filtered in
    let seen : c.args.self.now.nodes ≡ nodes_at slab places = search rules in
    let spare : c.self.inside.spare ≡ c.args.self.now.spare = search rules in
    let made : List Node → ℕ → StoreState = λ ns s. record { nodes = ns; spare = s } in
    ap₂ made (ap (nodes_at slab) is ∙ nodes_pressed slab places ∙ sym seen) spare
