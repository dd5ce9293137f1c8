use Rattle.std.proofs.Common.{rules, arith, refl, ◌≡◌, ◌∙◌, ℕ, List, ap, ap₂, sym, subst, length}
use Rattle.std.specs.Prelude.{IsSome, Some, None, map}
use Rattle.std.specs.List.{find}
use Rattle.std.proofs.lemmas.List.{length-map}
use Rattle.slab.specs.Slab.{get}
use Rattle.nova_nodes.specs.declared.node.Node.{Node}
use Rattle.nova_nodes.specs.Stores.{StoreState, is_after, is_number, node_at, node_id, nodes_at, place_id, put}
use Rattle.nova_nodes.proofs.Slots.{put_nowhere}
use Rattle.nova_nodes.proofs.Stores.{found_at, is_got, one_put}
use Rattle.nova_nodes.proofs.store.Store.set.Goals as goal

-- the same state with other nodes
abbrev having : StoreState → List Node → StoreState
having s ns = record s { nodes = ns }

pub returns-in_default : goal.returns-in_default
returns-in_default c =
    let none : find (is_number node_id c.args.node.derivation.id) c.args.self.now.nodes ≡ None = search rules in
    ap (having c.args.self.now) (sym (put_nowhere c.args.node c.args.self.now.nodes none))

pub write-requires : goal.write-requires
write-requires c =
    let e = c.in-Some.entry in
    let there : node_at c.self.inside.slab e.place ≡ Some e.node = c.in-Some.ensures.there in
    subst IsSome (sym (is_got e.place.id (get c.self.inside.slab e.place.key) e.node there)) refl

pub invariant_of-self : goal.invariant_of-self
invariant_of-self c =
    let slab = c.self.inside.slab in
    let places = c.self.inside.places.items in
    let e = c.in-Some.entry in
    let found : find (is_after place_id c.args.node.derivation.id) places ≡ Some e.place = search rules in
    let there : node_at slab e.place ≡ Some e.node = c.in-Some.ensures.there in
    let done = one_put slab c.write.new.slab places e.place e.node c.args.node c.self.invariant.0 (found_at (is_after place_id c.args.node.derivation.id) places e.place found) there c.in-Some.ensures.id c.write.ensures.updates in
    let nodes = ap length done ∙ length-map (nodes_at slab places) (put c.args.node) in
    let count = c.self.invariant.1.0 in
    let room = c.self.invariant.1.1.1 in
    (c.self.invariant.0, (omega (arith, nodes, count), (c.self.invariant.1.1.0, omega (arith, room, c.write.ensures.len, c.write.ensures.capacity))))

pub returns : goal.returns
returns c =
    let slab = c.self.inside.slab in
    let places = c.self.inside.places.items in
    let e = c.in-Some.entry in
    let seen : c.args.self.now.nodes ≡ nodes_at slab places = search rules in
    let found : find (is_after place_id c.args.node.derivation.id) places ≡ Some e.place = search rules in
    let there : node_at slab e.place ≡ Some e.node = c.in-Some.ensures.there in
    let done = one_put slab c.write.new.slab places e.place e.node c.args.node c.self.invariant.0 (found_at (is_after place_id c.args.node.derivation.id) places e.place found) there c.in-Some.ensures.id c.write.ensures.updates in
    let spare : c.self.inside.spare ≡ c.args.self.now.spare = search rules in
    let made : List Node → ℕ → StoreState = λ ns s. record { nodes = ns; spare = s } in
    ap₂ made (done ∙ ap (map (put c.args.node)) (sym seen)) spare
