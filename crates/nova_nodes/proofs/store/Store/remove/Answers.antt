use Rattle.std.proofs.Common.{rules, arith, refl, ◌≡◌, ◌∙◌, ℕ, List, ap, ap₂, sym, subst}
use Rattle.std.specs.Prelude.{IsSome, Some, None, filter, not}
use Rattle.std.specs.List.{find}
use Rattle.slab.specs.Slab.{get}
use Rattle.nova_nodes.specs.declared.node.Node.{Node}
use Rattle.nova_nodes.specs.Stores.{StoreState, is_after, is_number, node_at, node_id, nodes_at, place_id}
use Rattle.nova_nodes.proofs.Slots.{nowhere}
use Rattle.nova_nodes.proofs.Stores.{found_at, is_got, one_less}
use Rattle.nova_nodes.proofs.store.Store.remove.Goals as goal

-- the same state with other nodes
abbrev having : StoreState → List Node → StoreState
having s ns = record s { nodes = ns }

pub returns-in_default : goal.returns-in_default
returns-in_default c =
    let none : find (is_number node_id c.args.id) c.args.self.now.nodes ≡ None = search rules in
    ap (having c.args.self.now) (sym (nowhere c.args.id c.args.self.now.nodes none))

pub remove-requires : goal.remove-requires
remove-requires c =
    let e = c.in-Some.entry in
    let there : node_at c.self.inside.slab e.place ≡ Some e.node = c.in-Some.ensures.there in
    subst IsSome (sym (is_got e.place.id (get c.self.inside.slab e.place.key) e.node there)) refl

pub invariant_of-self : goal.invariant_of-self
invariant_of-self c =
    let slab = c.self.inside.slab in
    let places = c.self.inside.places.items in
    let e = c.in-Some.entry in
    let found : find (is_after place_id c.args.id) places ≡ Some e.place = search rules in
    let there : node_at slab e.place ≡ Some e.node = c.in-Some.ensures.there in
    let done = one_less slab c.remove.new.self places e.place e.node c.args.id c.self.invariant.0 (found_at (is_after place_id c.args.id) places e.place found) there c.in-Some.ensures.id c.remove.ensures.updates in
    let fewer = done.fewer in
    let count = c.self.invariant.1.0 in
    let room = c.self.invariant.1.1.1 in
    (c.self.invariant.0, (omega (arith, fewer, count), (c.self.invariant.1.1.0, omega (arith, room, c.remove.ensures.len, c.remove.ensures.capacity))))

pub returns : goal.returns
returns c =
    let slab = c.self.inside.slab in
    let places = c.self.inside.places.items in
    let e = c.in-Some.entry in
    let seen : c.args.self.now.nodes ≡ nodes_at slab places = search rules in
    let found : find (is_after place_id c.args.id) places ≡ Some e.place = search rules in
    let there : node_at slab e.place ≡ Some e.node = c.in-Some.ensures.there in
    let done = one_less slab c.remove.new.self places e.place e.node c.args.id c.self.invariant.0 (found_at (is_after place_id c.args.id) places e.place found) there c.in-Some.ensures.id c.remove.ensures.updates in
    let spare : c.self.inside.spare ≡ c.args.self.now.spare = search rules in
    let made : List Node → ℕ → StoreState = λ ns s. record { nodes = ns; spare = s } in
    c.press.ensures ∙ ap₂ made (done.nodes ∙ ap (filter (λ n. not (is_number node_id c.args.id n))) (sym seen)) spare
