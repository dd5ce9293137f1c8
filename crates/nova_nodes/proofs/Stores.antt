-- Nodes at places of a slab: each place is a slot; what is found there, and what changes with a key.
use Rattle.std.proofs.Common.{◌≡◌, ℕ, ◌<◌, ◌≤◌, ◌+◌, List, [], ◌∷◌, ◌++◌, ap, sym, ◌∙◌, refl, inl, inr, arith, subst}
use Rattle.std.specs.Prelude.{Bool, true, false, ◌==◌, not, length, map, filter, zero, suc, is_some, nat_le, slice_get, slice_set, if◌then◌else◌, Option, Some, None, option_and_then}
use Rattle.std.specs.List.{AllByRecursion, find}
use Rattle.std.proofs.lemmas.Bool.{eqb-true}
use Rattle.std.proofs.lemmas.List.{length-map, map-append}
use Rattle.slab.specs.Slab.{Slab, Updates, get}
use Rattle.law_forest.proofs.Members.{IsIn, all_at, all_from, filtered_in}
use Rattle.nova_nodes.specs.declared.node.Node.{Node}
use Rattle.nova_nodes.specs.declared.node.Place.{Place}
use Rattle.nova_nodes.specs.Stores.{AreInOrder, AreRising, is_after, is_number, node_at, node_id, nodes_at, of_id, place_id, put}
use Rattle.nova_nodes.proofs.Slots.{AreRaised, Gone, Kept, Slot, before, first_after, in_got, its_node, node_in, nodes_of, nodes_put, nodes_without, one_gone, pairs_filter, pairs_more, pushed, rising_nodes, slot_id}

-- WHAT A PLACE HOLDS

-- a node that is found by an id has that id
pub has_id : (id : ℕ) (o : Option Node) (n : Node) → of_id id o ≡ Some n → n.derivation.id ≡ id
has_id id None n is = absurd (cc)
has_id id (Some m) n is = by_test (is_number node_id id m) refl is
  where
    by_test : (t : Bool) → is_number node_id id m ≡ t → (if t then Some m else None) ≡ Some n → n.derivation.id ≡ id
    by_test true h g = let same : m ≡ n = cc in ap node_id (sym same) ∙ eqb-true m.derivation.id id h
    by_test false h g = absurd (cc)

pub is_got : (id : ℕ) (o : Option Node) (n : Node) → of_id id o ≡ Some n → o ≡ Some n
is_got id None n is = absurd (cc)
is_got id (Some m) n is = by_test (is_number node_id id m) is
  where
    by_test : (t : Bool) → (if t then Some m else None) ≡ Some n → Some m ≡ Some n
    by_test true g = g
    by_test false g = absurd (cc)

pub its_own : (node : Node) → of_id node.derivation.id (Some node) ≡ Some node
its_own node = let on : is_number node_id node.derivation.id node ≡ true = grind arith in rw on refl

pub not_its : (id : ℕ) (node : Node) → (id ≡ node.derivation.id → ⊥) → of_id id (Some node) ≡ None
not_its id node off = by_test (is_number node_id id node) refl
  where
    by_test : (t : Bool) → is_number node_id id node ≡ t → (if t then Some node else None) ≡ None
    by_test true h = absurd (off (sym (eqb-true node.derivation.id id h)))
    by_test false h = refl

abbrev pub slot_with : ℕ → Option Node → Slot
slot_with id None = Gone id
slot_with id (Some n) = Kept n

abbrev pub slot_at : Slab Node → Place → Slot
slot_at slab p = slot_with p.id (node_at slab p)

abbrev pub slots : Slab Node → List Place → List Slot
slots slab ps = map (slot_at slab) ps

id_with : (id : ℕ) (o : Option Node) → ((n : Node) → o ≡ Some n → n.derivation.id ≡ id) → slot_id (slot_with id o) ≡ id
id_with id None h = refl
id_with id (Some n) h = h n refl

id_at : (slab : Slab Node) (p : Place) → slot_id (slot_at slab p) ≡ p.id
id_at slab p = id_with p.id (node_at slab p) (λ n is. has_id p.id (get slab p.key) n is)

in_with : (id : ℕ) (o : Option Node) → node_in (slot_with id o) ≡ o
in_with id None = refl
in_with id (Some n) = refl

pub nodes_in : (slab : Slab Node) (ps : List Place) → nodes_of (slots slab ps) ≡ nodes_at slab ps
nodes_in slab [] = refl
nodes_in slab (p ∷ ps) = rw (in_with p.id (node_at slab p), nodes_in slab ps) refl

pub raised : (slab : Slab Node) (ps : List Place) → AreInOrder ps → AreRaised (slots slab ps)
raised slab [] order = tt
raised slab (p ∷ ps) order = (above ps order.0, raised slab ps order.1)
  where
    above : (qs : List Place) → AllByRecursion (λ q. p.id < q.id) qs → AllByRecursion (λ s. slot_id (slot_at slab p) < slot_id s) (slots slab qs)
    above [] all = tt
    above (q ∷ qs) all = let less = all.0 in let here = id_at slab p in let there = id_at slab q in (omega (arith, less, here, there), above qs all.1)

-- slots by a test of their ids
slots_filter : (test : ℕ → Bool) (slab : Slab Node) (ps : List Place) → slots slab (filter (λ p. test p.id) ps) ≡ filter (λ s. test (slot_id s)) (slots slab ps)
slots_filter test slab [] = refl
slots_filter test slab (p ∷ ps) = rw (id_at slab p) (by_test (test p.id) (slots_filter test slab ps))
  where
    by_test : (t : Bool) → slots slab (filter (λ p. test p.id) ps) ≡ filter (λ s. test (slot_id s)) (slots slab ps) →
        slots slab (if t then p ∷ filter (λ p. test p.id) ps else filter (λ p. test p.id) ps) ≡ (if t then slot_at slab p ∷ filter (λ s. test (slot_id s)) (slots slab ps) else filter (λ s. test (slot_id s)) (slots slab ps))
    by_test true rest = ap (λ l. slot_at slab p ∷ l) rest
    by_test false rest = rest

-- WHAT IS FOUND

pub rising_places : (slab : Slab Node) (ps : List Place) → AreInOrder ps → AreRising (nodes_at slab ps)
rising_places slab ps order = subst AreRising (nodes_in slab ps) (rising_nodes (slots slab ps) (raised slab ps order))

-- the first node from an id on is the first at the places from the id on
pub first_from : (id : ℕ) (slab : Slab Node) (ps : List Place) → find (is_after node_id id) (nodes_at slab ps) ≡ slice_get (nodes_at slab (filter (is_after place_id id) ps)) 0
first_from id slab ps =
    ap (find (is_after node_id id)) (sym (nodes_in slab ps)) ∙ first_after id (slots slab ps)
    ∙ ap (λ (ns : List Node). slice_get ns 0) (ap nodes_of (sym (slots_filter (nat_le id) slab ps)) ∙ nodes_in slab (filter (is_after place_id id) ps))

found_slot : (id : ℕ) (slab : Slab Node) (ps : List Place) → option_and_then node_in (find (is_after slot_id id) (slots slab ps)) ≡ option_and_then (node_at slab) (find (is_after place_id id) ps)
found_slot id slab [] = refl
found_slot id slab (p ∷ ps) = rw (id_at slab p) (by_test (nat_le id p.id) (found_slot id slab ps))
  where
    by_test : (t : Bool) → option_and_then node_in (find (is_after slot_id id) (slots slab ps)) ≡ option_and_then (node_at slab) (find (is_after place_id id) ps) →
        option_and_then node_in (if t then Some (slot_at slab p) else find (is_after slot_id id) (slots slab ps)) ≡ option_and_then (node_at slab) (if t then Some p else find (is_after place_id id) ps)
    by_test true rest = in_with p.id (node_at slab p)
    by_test false rest = rest

-- the node of an id is at the first place from the id on, or nowhere
pub node_of_id : (id : ℕ) (slab : Slab Node) (ps : List Place) → AreInOrder ps → find (is_number node_id id) (nodes_at slab ps) ≡ of_id id (option_and_then (node_at slab) (find (is_after place_id id) ps))
node_of_id id slab ps order =
    ap (find (is_number node_id id)) (sym (nodes_in slab ps)) ∙ its_node id (slots slab ps) (raised slab ps order) ∙ ap (of_id id) (found_slot id slab ps)

-- where what is found stands
pub record StandsAt {T : Type 0} (xs : List T) (x : T) : Type 0 where
  pub at : ℕ
  pub is : slice_get xs at ≡ Some x

pub found_at : {T : Type 0} (test : T → Bool) (xs : List T) (x : T) → find test xs ≡ Some x → StandsAt xs x
found_at test [] x is = absurd (cc)
found_at test (y ∷ ys) x is = by_test (test y) is (λ k. found_at test ys x k)
  where
    by_test : (t : Bool) → (if t then Some y else find test ys) ≡ Some x → (find test ys ≡ Some x → StandsAt ys x) → StandsAt (y ∷ ys) x
    by_test true k rest = record { at = 0; is = k }
    by_test false k rest = let r = rest k in record { at = suc r.at; is = r.is }

got_slot : (slab : Slab Node) (ps : List Place) (at : ℕ) (p : Place) → slice_get ps at ≡ Some p → slice_get (slots slab ps) at ≡ Some (slot_at slab p)
got_slot slab [] zero p is = absurd (cc)
got_slot slab [] (suc at) p is = absurd (cc)
got_slot slab (q ∷ ps) zero p is = let same : q ≡ p = cc in ap (λ r. Some (slot_at slab r)) same
got_slot slab (q ∷ ps) (suc at) p is = got_slot slab ps at p is

-- WHAT CHANGES WITH A KEY

-- another place sees nothing of it
pub elsewhere : (slab other : Slab Node) (key : ℕ) (new : Option Node) (q : Place) → Updates slab other key new → of_id q.id (get slab key) ≡ None → of_id q.id new ≡ None → node_at other q ≡ node_at slab q
elsewhere slab other key new q updates was is = by_test (q.key == key) refl
  where
    by_test : (t : Bool) → (q.key == key) ≡ t → node_at other q ≡ node_at slab q
    by_test true h =
        let same : q.key ≡ key = eqb-true q.key key h in
        ap (λ k. of_id q.id (get other k)) same ∙ ap (of_id q.id) updates.changed ∙ is ∙ sym was ∙ ap (λ k. of_id q.id (get slab k)) (sym same)
    by_test false h = ap (of_id q.id) (updates.others q.key (λ e. let on : (q.key == key) ≡ true = grind (arith, e) in absurd (cc)))

pub slots_same : (slab other : Slab Node) (ps : List Place) → ((q : Place) → IsIn ps q → node_at other q ≡ node_at slab q) → slots other ps ≡ slots slab ps
slots_same slab other [] same = refl
slots_same slab other (p ∷ ps) same = rw (same p (inl refl)) (ap (λ l. slot_at slab p ∷ l) (slots_same slab other ps (λ q i. same q (inr i))))

slots_set : (slab other : Slab Node) (ps : List Place) (at : ℕ) (p : Place) → AreInOrder ps → slice_get ps at ≡ Some p → ((q : Place) → (q.id ≡ p.id → ⊥) → node_at other q ≡ node_at slab q) →
    slots other ps ≡ slice_set (slots slab ps) at (slot_at other p)
slots_set slab other [] zero p order is same = absurd (cc)
slots_set slab other [] (suc at) p order is same = absurd (cc)
slots_set slab other (q ∷ ps) zero p order is same =
    let here : q ≡ p = cc in
    let above : AllByRecursion (λ r. p.id < r.id) ps = subst (λ (o : Place). AllByRecursion (λ r. o.id < r.id) ps) here order.0 in
    rw here (ap (λ l. slot_at other p ∷ l) (slots_same slab other ps (λ r i. same r (λ e. let less = all_at (λ s. p.id < s.id) ps r above i in omega arith))))
slots_set slab other (q ∷ ps) (suc at) p order is same =
    let less = all_at (λ r. q.id < r.id) ps p order.0 (in_got ps at p is) in
    rw (same q (λ e. omega arith)) (ap (λ l. slot_at slab q ∷ l) (slots_set slab other ps at p order.1 is same))

-- another node at a place

pub one_put : (slab other : Slab Node) (ps : List Place) (p : Place) (old node : Node) → AreInOrder ps → StandsAt ps p → node_at slab p ≡ Some old → old.derivation.id ≡ node.derivation.id →
    Updates slab other p.key (Some node) → nodes_at other ps ≡ map (put node) (nodes_at slab ps)
one_put slab other ps p old node order stands was same updates =
    sym (nodes_in other ps)
    ∙ ap nodes_of (slots_set slab other ps stands.at p order stands.is apart ∙ ap (λ s. slice_set (slots slab ps) stands.at s) now)
    ∙ nodes_put (slots slab ps) stands.at old node (raised slab ps order) (got_slot slab ps stands.at p stands.is ∙ ap (λ s. Some s) (ap (slot_with p.id) was)) same
    ∙ ap (map (put node)) (nodes_in slab ps)
  where
    id : p.id ≡ node.derivation.id
    id = sym (has_id p.id (get slab p.key) old was) ∙ same

    now : slot_at other p ≡ Kept node
    now = ap (λ o. slot_with p.id (of_id p.id o)) updates.changed ∙ ap (λ k. slot_with p.id (of_id k (Some node))) id ∙ ap (slot_with p.id) (its_own node)

    apart : (q : Place) → (q.id ≡ p.id → ⊥) → node_at other q ≡ node_at slab q
    apart q off = elsewhere slab other p.key (Some node) q updates
        (ap (of_id q.id) (is_got p.id (get slab p.key) old was) ∙ not_its q.id old (λ e. off (e ∙ same ∙ sym id)))
        (not_its q.id node (λ e. off (e ∙ sym id)))

-- none at a place any more

pub record IsLess (slab other : Slab Node) (ps : List Place) (id : ℕ) : Type 0 where
  pub nodes : nodes_at other ps ≡ filter (λ n. not (is_number node_id id n)) (nodes_at slab ps)
  pub fewer : length (nodes_at other ps) + 1 ≡ length (nodes_at slab ps)

pub one_less : (slab other : Slab Node) (ps : List Place) (p : Place) (old : Node) (id : ℕ) → AreInOrder ps → StandsAt ps p → node_at slab p ≡ Some old → old.derivation.id ≡ id →
    Updates slab other p.key None → IsLess slab other ps id
one_less slab other ps p old id order stands was same updates = record {
  nodes = sym (nodes_in other ps) ∙ ap nodes_of set ∙ nodes_without (slots slab ps) stands.at old id (raised slab ps order) got same ∙ ap (filter (λ n. not (is_number node_id id n))) (nodes_in slab ps);
  fewer = ap (λ ns. length ns + 1) (sym (nodes_in other ps) ∙ ap nodes_of set) ∙ one_gone (slots slab ps) stands.at old id got ∙ ap length (nodes_in slab ps);
}
  where
    its : p.id ≡ id
    its = sym (has_id p.id (get slab p.key) old was) ∙ same

    got : slice_get (slots slab ps) stands.at ≡ Some (Kept old)
    got = got_slot slab ps stands.at p stands.is ∙ ap (λ s. Some s) (ap (slot_with p.id) was)

    now : slot_at other p ≡ Gone id
    now = ap (λ o. slot_with p.id (of_id p.id o)) updates.changed ∙ ap (λ k. Gone k) its

    apart : (q : Place) → (q.id ≡ p.id → ⊥) → node_at other q ≡ node_at slab q
    apart q off = elsewhere slab other p.key None q updates
        (ap (of_id q.id) (is_got p.id (get slab p.key) old was) ∙ not_its q.id old (λ e. off (e ∙ same ∙ sym its))) refl

    set : slots other ps ≡ slice_set (slots slab ps) stands.at (Gone id)
    set = slots_set slab other ps stands.at p order stands.is apart ∙ ap (λ s. slice_set (slots slab ps) stands.at s) now

-- one more

abbrev pub low_places : ℕ → List Place → List Place
low_places id ps = filter (λ p. not (is_after place_id id p)) ps

pub record IsMore (slab other : Slab Node) (ps rest : List Place) (new : Place) (node : Node) : Type 0 where
  pub order : AreInOrder (rest ++ new ∷ [])
  pub nodes : nodes_at other (rest ++ new ∷ []) ≡ nodes_at slab ps ++ node ∷ []

pub few_places : (slab : Slab Node) (ps rest : List Place) (node : Node) → AreInOrder ps → rest ≡ low_places node.derivation.id ps → AllByRecursion (λ n. n.derivation.id < node.derivation.id) (nodes_at slab ps) →
    length (nodes_at slab ps) ≤ length rest
few_places slab ps rest node order is last =
    let front : slots slab rest ≡ before node.derivation.id (slots slab ps) = ap (slots slab) is ∙ slots_filter (λ k. not (nat_le node.derivation.id k)) slab ps in
    let low = subst (λ (ns : List Node). AllByRecursion (λ n. n.derivation.id < node.derivation.id) ns) (sym (nodes_in slab ps)) last in
    let few = (pushed (slots slab ps) (slots slab rest) node (raised slab ps order) front low).few in
    omega (arith, few, ap length (nodes_in slab ps), length-map rest (slot_at slab))

filtered_low : (id : ℕ) (ps : List Place) (p : Place) → IsIn (low_places id ps) p → p.id < id
filtered_low id ps p i = let k = (filtered_in (λ q. not (is_after place_id id q)) ps p i).1 in grind (arith, k)

pub one_more : (slab other : Slab Node) (ps rest : List Place) (new : Place) (node : Node) → AreInOrder ps → rest ≡ low_places node.derivation.id ps → AllByRecursion (λ n. n.derivation.id < node.derivation.id) (nodes_at slab ps) →
    new.id ≡ node.derivation.id → get slab new.key ≡ None → Updates slab other new.key (Some node) → IsMore slab other ps rest new node
one_more slab other ps rest new node order is last id vacant updates = record {
  order = pairs_more (λ a b. a.id < b.id) rest new kept (all_from (λ p. p.id < new.id) rest (λ p i. low p i));
  nodes = sym (nodes_in other (rest ++ new ∷ [])) ∙ ap nodes_of split ∙ (pushed (slots slab ps) (slots slab rest) node (raised slab ps order) front below).nodes ∙ ap (λ l. l ++ node ∷ []) (nodes_in slab ps);
}
  where
    front : slots slab rest ≡ before node.derivation.id (slots slab ps)
    front = ap (slots slab) is ∙ slots_filter (λ k. not (nat_le node.derivation.id k)) slab ps

    below : AllByRecursion (λ n. n.derivation.id < node.derivation.id) (nodes_of (slots slab ps))
    below = subst (λ (ns : List Node). AllByRecursion (λ n. n.derivation.id < node.derivation.id) ns) (sym (nodes_in slab ps)) last

    kept : AreInOrder rest
    kept = subst AreInOrder (sym is) (pairs_filter (λ (a b : Place). a.id < b.id) (λ p. not (is_after place_id node.derivation.id p)) ps order)

    low : (p : Place) → IsIn rest p → p.id < new.id
    low p i = let h = filtered_low node.derivation.id ps p (subst (λ (qs : List Place). IsIn qs p) is i) in let same = id in omega arith

    now : slot_at other new ≡ Kept node
    now = ap (λ o. slot_with new.id (of_id new.id o)) updates.changed ∙ ap (λ k. slot_with new.id (of_id k (Some node))) id ∙ ap (slot_with new.id) (its_own node)

    unchanged : slots other rest ≡ slots slab rest
    unchanged = slots_same slab other rest (λ q i. elsewhere slab other new.key (Some node) q updates (ap (of_id q.id) vacant) (not_its q.id node (λ e. let less = low q i in let same = id in omega arith)))

    split : slots other (rest ++ new ∷ []) ≡ slots slab rest ++ Kept node ∷ []
    split = map-append (slot_at other) rest (new ∷ []) ∙ ap (λ l. l ++ slot_at other new ∷ []) unchanged ∙ ap (λ s. slots slab rest ++ s ∷ []) now

-- FEWER PLACES

-- those that are left when places of nodes that are gone are pressed out
abbrev pub pressed : Slab Node → List Place → List Place
pressed slab ps = filter (λ p. is_some (node_at slab p)) ps

pub nodes_pressed : (slab : Slab Node) (ps : List Place) → nodes_at slab (pressed slab ps) ≡ nodes_at slab ps
nodes_pressed slab [] = refl
nodes_pressed slab (p ∷ ps) = by_node (node_at slab p) refl (nodes_pressed slab ps)
  where
    by_node : (o : Option Node) → node_at slab p ≡ o → nodes_at slab (pressed slab ps) ≡ nodes_at slab ps → nodes_at slab (pressed slab (p ∷ ps)) ≡ nodes_at slab (p ∷ ps)
    by_node None is rest = rw is rest
    by_node (Some n) is rest = rw is (rw is (ap (λ l. n ∷ l) rest))

pub length_pressed : (slab : Slab Node) (ps : List Place) → length (nodes_at slab (pressed slab ps)) ≡ length (pressed slab ps)
length_pressed slab [] = refl
length_pressed slab (p ∷ ps) = by_node (node_at slab p) refl (length_pressed slab ps)
  where
    by_node : (o : Option Node) → node_at slab p ≡ o → length (nodes_at slab (pressed slab ps)) ≡ length (pressed slab ps) → length (nodes_at slab (pressed slab (p ∷ ps))) ≡ length (pressed slab (p ∷ ps))
    by_node None is rest = rw is rest
    by_node (Some n) is rest = rw is (rw is (ap (λ k. suc k) rest))
