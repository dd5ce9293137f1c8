use Rattle.std.proofs.Common.{rules, refl, ◌≡◌, ◌∙◌, true, false, ap, sym}
use Rattle.std.specs.Prelude.{Some, None, option_and_then, option_map}
use Rattle.std.specs.List.{find}
use Rattle.nova_nodes.specs.Stores.{is_after, is_number, node_at, node_id, node_of, of_id, place_id}
use Rattle.nova_nodes.proofs.Stores.{node_of_id}
use Rattle.nova_nodes.proofs.store.entry_of.Goals as goal

pub returns-in_err-place-clause-node : goal.returns-in_err-place-clause-node
returns-in_err-place-clause-node c =
    let slab = c.args.slab.now in
    let places = c.args.places.now in
    let none : None ≡ find (is_after place_id c.args.id) places = search rules in
    let gives : c.from_residual.result ≡ None = search rules in
    ap (option_map node_of) gives ∙ ap (λ o. of_id c.args.id (option_and_then (node_at slab) o)) none ∙ sym (node_of_id c.args.id slab places c.requires)

pub returns-in_err-node-clause-node : goal.returns-in_err-node-clause-node
returns-in_err-node-clause-node c =
    let slab = c.args.slab.now in
    let places = c.args.places.now in
    let found : Some c.in_ok-place.place ≡ find (is_after place_id c.args.id) places = search rules in
    let none : None ≡ node_at slab c.in_ok-place.place = search rules in
    let gives : c.from_residual-in_err-node.result ≡ None = search rules in
    ap (option_map node_of) gives ∙ ap (of_id c.args.id) (none ∙ ap (option_and_then (node_at slab)) found) ∙ sym (node_of_id c.args.id slab places c.requires)

pub returns-then-node-id-clause-node : goal.returns-then-node-id-clause-node
returns-then-node-id-clause-node c =
    let slab = c.args.slab.now in
    let places = c.args.places.now in
    let n = c.in_ok-node.node in
    let found : Some c.in_ok-place.place ≡ find (is_after place_id c.args.id) places = search rules in
    let some : Some n ≡ node_at slab c.in_ok-place.place = search rules in
    let same : is_number node_id c.args.id n ≡ true = search rules in
    let gives : Some n ≡ of_id c.args.id (Some n) = rw same refl in
    gives ∙ ap (of_id c.args.id) (some ∙ ap (option_and_then (node_at slab)) found) ∙ sym (node_of_id c.args.id slab places c.requires)

pub returns-else-node-id-clause-node : goal.returns-else-node-id-clause-node
returns-else-node-id-clause-node c =
    let slab = c.args.slab.now in
    let places = c.args.places.now in
    let n = c.in_ok-node.node in
    let found : Some c.in_ok-place.place ≡ find (is_after place_id c.args.id) places = search rules in
    let some : Some n ≡ node_at slab c.in_ok-place.place = search rules in
    let other : is_number node_id c.args.id n ≡ false = search rules in
    let gives : None ≡ of_id c.args.id (Some n) = rw other refl in
    gives ∙ ap (of_id c.args.id) (some ∙ ap (option_and_then (node_at slab)) found) ∙ sym (node_of_id c.args.id slab places c.requires)
