use Rattle.std.proofs.Common.{rules, arith, ◌≡◌, ◌∙◌, ◌-◌, List, ap, length, length-drop, sym, subst}
use Rattle.std.specs.Prelude.{drop, filter, slice_get, take}
use Rattle.std.specs.List.{find}
use Rattle.std.proofs.lemmas.List.{take_all}
use Rattle.nova_nodes.specs.declared.node.Place.{Place}
use Rattle.nova_nodes.specs.Stores.{AreRising, is_after, node_id, nodes_at, place_id}
use Rattle.nova_nodes.proofs.Stores.{first_from, rising_places}
use Rattle.nova_nodes.proofs.store.Store.from_id.Goals as goal

pub returns-clause-found : goal.returns-clause-found
returns-clause-found c =
    let slab = c.self.inside.slab in
    let places = c.self.inside.places.items in
    let seen : c.args.self.now.nodes ≡ nodes_at slab places = search rules in
    let rest : drop c.point-at.result places ≡ filter (is_after place_id c.args.id) places = search rules in
    let at = c.point-at.result in
    let whole : take (length places - at) (drop at places) ≡ drop at places = take_all (length places - at) (drop at places) (omega (arith, length-drop at places)) in
    let first : c.first_node.result ≡ slice_get (nodes_at slab (take (length places - at) (drop at places))) 0 = search rules in
    first ∙ ap (λ (ps : List Place). slice_get (nodes_at slab ps) 0) (whole ∙ rest) ∙ sym (first_from c.args.id slab places) ∙ ap (find (is_after node_id c.args.id)) (sym seen)

pub returns-clause-rising : goal.returns-clause-rising
returns-clause-rising c =
    let seen : c.args.self.now.nodes ≡ nodes_at c.self.inside.slab c.self.inside.places.items = search rules in
    subst AreRising (sym seen) (rising_places c.self.inside.slab c.self.inside.places.items c.self.invariant.0)
