-- Slots that stand for ids: what is found among them, and what changes with one.
use Rattle.std.proofs.Common.{◌≡◌, ℕ, ◌<◌, ◌≤◌, ◌+◌, List, [], ◌∷◌, ◌++◌, ap, sym, ◌∙◌, refl, inl, inr, arith, subst}
use Rattle.std.specs.Prelude.{Bool, true, false, not, length, map, filter, zero, suc, nat_le, slice_get, slice_set, if◌then◌else◌, Option, Some, None, option_and_then}
use Rattle.std.specs.List.{AllByRecursion, filter_map, find}
use Rattle.std.proofs.lemmas.List.Elements.{filter_map-append}
use Rattle.nova_model.specs.Forest.{ArePairs}
use Rattle.law_forest.proofs.Members.{IsIn, all_at, all_from, all_more, filtered_in}
pub use Rattle.law_forest.proofs.Pairs.{pairs_filter, pairs_more}
use Rattle.nova_nodes.specs.declared.node.Node.{Node}
use Rattle.nova_nodes.specs.Stores.{AreRising, is_after, is_number, node_id, of_id, put}
use Rattle.nova_nodes.proofs.Found.{not_found}
use Rattle.nova_nodes.proofs.Sorted.{filter_all}

-- what stands for an id: its node, or the id alone where that was taken away
pub data Slot : Type 0 where
  Kept : Node → Slot
  Gone : ℕ → Slot

abbrev pub slot_id : Slot → ℕ
slot_id (Kept n) = n.derivation.id
slot_id (Gone id) = id

abbrev pub node_in : Slot → Option Node
node_in (Kept n) = Some n
node_in (Gone id) = None

abbrev pub nodes_of : List Slot → List Node
nodes_of slots = filter_map node_in slots

abbrev pub AreRaised : List Slot → Type 0
AreRaised slots = ArePairs (λ a b. slot_id a < slot_id b) slots

-- WHAT IS FOUND

-- what holds of the ids of slots holds of those of nodes
of_slots : (P : ℕ → Type 0) (ss : List Slot) → AllByRecursion (λ s. P (slot_id s)) ss → AllByRecursion (λ n. P n.derivation.id) (nodes_of ss)
of_slots P [] all = tt
of_slots P (Kept n ∷ ss) all = (all.0, of_slots P ss all.1)
of_slots P (Gone id ∷ ss) all = of_slots P ss all.1

pub rising_nodes : (ss : List Slot) → AreRaised ss → AreRising (nodes_of ss)
rising_nodes [] order = tt
rising_nodes (Kept n ∷ ss) order = (of_slots (λ id. n.derivation.id < id) ss order.0, rising_nodes ss order.1)
rising_nodes (Gone id ∷ ss) order = rising_nodes ss order.1

-- the first node from an id on is the first in the slots from the id on
pub first_after : (id : ℕ) (ss : List Slot) → find (is_after node_id id) (nodes_of ss) ≡ slice_get (nodes_of (filter (is_after slot_id id) ss)) 0
first_after id [] = refl
first_after id (Kept n ∷ ss) = by_test (nat_le id n.derivation.id) (first_after id ss)
  where
    by_test : (t : Bool) → find (is_after node_id id) (nodes_of ss) ≡ slice_get (nodes_of (filter (is_after slot_id id) ss)) 0 →
        (if t then Some n else find (is_after node_id id) (nodes_of ss)) ≡ slice_get (nodes_of (if t then Kept n ∷ filter (is_after slot_id id) ss else filter (is_after slot_id id) ss)) 0
    by_test true rest = refl
    by_test false rest = rest
first_after id (Gone other ∷ ss) = by_test (nat_le id other) (first_after id ss)
  where
    by_test : (t : Bool) → find (is_after node_id id) (nodes_of ss) ≡ slice_get (nodes_of (filter (is_after slot_id id) ss)) 0 →
        find (is_after node_id id) (nodes_of ss) ≡ slice_get (nodes_of (if t then Gone other ∷ filter (is_after slot_id id) ss else filter (is_after slot_id id) ss)) 0
    by_test true rest = rest
    by_test false rest = rest

-- below all ids no node is found
none_above : (id low : ℕ) (ss : List Slot) → AllByRecursion (λ s. low < slot_id s) ss → id ≤ low → find (is_number node_id id) (nodes_of ss) ≡ None
none_above id low [] all le = refl
none_above id low (Kept n ∷ ss) all le = let above = all.0 in let off : is_number node_id id n ≡ false = grind (arith, above, le) in rw off (none_above id low ss all.1 le)
none_above id low (Gone other ∷ ss) all le = none_above id low ss all.1 le

-- the node of an id is in the first slot from the id on, or nowhere
pub its_node : (id : ℕ) (ss : List Slot) → AreRaised ss → find (is_number node_id id) (nodes_of ss) ≡ of_id id (option_and_then node_in (find (is_after slot_id id) ss))
its_node id [] order = refl
its_node id (Kept n ∷ ss) order = by_test (nat_le id n.derivation.id) refl (its_node id ss order.1)
  where
    by_test : (t : Bool) → nat_le id n.derivation.id ≡ t → find (is_number node_id id) (nodes_of ss) ≡ of_id id (option_and_then node_in (find (is_after slot_id id) ss)) →
        find (is_number node_id id) (n ∷ nodes_of ss) ≡ of_id id (option_and_then node_in (if t then Some (Kept n) else find (is_after slot_id id) ss))
    by_test true h rest = by_id (is_number node_id id n)
      where
        by_id : (b : Bool) → (if b then Some n else find (is_number node_id id) (nodes_of ss)) ≡ (if b then Some n else None)
        by_id true = refl
        by_id false = none_above id n.derivation.id ss order.0 (grind (arith, h))
    by_test false h rest = let off : is_number node_id id n ≡ false = grind (arith, h) in rw off rest
its_node id (Gone other ∷ ss) order = by_test (nat_le id other) refl (its_node id ss order.1)
  where
    by_test : (t : Bool) → nat_le id other ≡ t → find (is_number node_id id) (nodes_of ss) ≡ of_id id (option_and_then node_in (find (is_after slot_id id) ss)) →
        find (is_number node_id id) (nodes_of ss) ≡ of_id id (option_and_then node_in (if t then Some (Gone other) else find (is_after slot_id id) ss))
    by_test true h rest = none_above id other ss order.0 (grind (arith, h))
    by_test false h rest = rest

pub in_got : {T : Type 0} (xs : List T) (at : ℕ) (x : T) → slice_get xs at ≡ Some x → IsIn xs x
in_got [] zero x is = absurd (cc)
in_got [] (suc at) x is = absurd (cc)
in_got (y ∷ xs) zero x is = inl cc
in_got (y ∷ xs) (suc at) x is = inr (in_got xs at x is)

pub nowhere : (id : ℕ) (ns : List Node) → find (is_number node_id id) ns ≡ None → filter (λ n. not (is_number node_id id n)) ns ≡ ns
nowhere id ns none = filter_all (λ n. not (is_number node_id id n)) ns (all_from (λ n. not (is_number node_id id n) ≡ true) ns (λ n i. ap not (not_found (is_number node_id id) ns n none i)))

pub put_nowhere : (node : Node) (ns : List Node) → find (is_number node_id node.derivation.id) ns ≡ None → map (put node) ns ≡ ns
put_nowhere node [] none = refl
put_nowhere node (n ∷ ns) none = by_test (is_number node_id node.derivation.id n) refl none (λ g. put_nowhere node ns g)
  where
    by_test : (t : Bool) → is_number node_id node.derivation.id n ≡ t → find (is_number node_id node.derivation.id) (n ∷ ns) ≡ None →
        (find (is_number node_id node.derivation.id) ns ≡ None → map (put node) ns ≡ ns) → (if t then node else n) ∷ map (put node) ns ≡ n ∷ ns
    by_test true h g rest = let k : find (is_number node_id node.derivation.id) (n ∷ ns) ≡ Some n = rw h refl in absurd (cc)
    by_test false h g rest = let k : find (is_number node_id node.derivation.id) ns ≡ None = rw h at g in ap (λ l. n ∷ l) (rest k)

-- ANOTHER SLOT IN A PLACE

-- those before it have other ids
other_before : (n old : Node) (id at : ℕ) (ss : List Slot) → AllByRecursion (λ s. n.derivation.id < slot_id s) ss → slice_get ss at ≡ Some (Kept old) → old.derivation.id ≡ id → is_number node_id id n ≡ false
other_before n old id at ss above is same = let less : n.derivation.id < old.derivation.id = all_at (λ s. n.derivation.id < slot_id s) ss (Kept old) above (in_got ss at (Kept old) is) in grind (arith, less, same)

pub nodes_put : (ss : List Slot) (at : ℕ) (old node : Node) → AreRaised ss → slice_get ss at ≡ Some (Kept old) → old.derivation.id ≡ node.derivation.id →
    nodes_of (slice_set ss at (Kept node)) ≡ map (put node) (nodes_of ss)
nodes_put [] zero old node order is same = absurd (cc)
nodes_put [] (suc at) old node order is same = absurd (cc)
nodes_put (Kept n ∷ ss) zero old node order is same =
    let here : n ≡ old = cc in
    let id : n.derivation.id ≡ node.derivation.id = ap node_id here ∙ same in
    let on : is_number node_id node.derivation.id n ≡ true = grind (arith, id) in
    rw on (ap (λ l. node ∷ l) (sym (put_nowhere node (nodes_of ss) (none_above node.derivation.id n.derivation.id ss order.0 (omega arith)))))
nodes_put (Kept n ∷ ss) (suc at) old node order is same =
    let off = other_before n old node.derivation.id at ss order.0 is same in
    rw off (ap (λ l. n ∷ l) (nodes_put ss at old node order.1 is same))
nodes_put (Gone id ∷ ss) zero old node order is same = absurd (cc)
nodes_put (Gone id ∷ ss) (suc at) old node order is same = nodes_put ss at old node order.1 is same

pub nodes_without : (ss : List Slot) (at : ℕ) (old : Node) (id : ℕ) → AreRaised ss → slice_get ss at ≡ Some (Kept old) → old.derivation.id ≡ id →
    nodes_of (slice_set ss at (Gone id)) ≡ filter (λ n. not (is_number node_id id n)) (nodes_of ss)
nodes_without [] zero old id order is same = absurd (cc)
nodes_without [] (suc at) old id order is same = absurd (cc)
nodes_without (Kept n ∷ ss) zero old id order is same =
    let here : n ≡ old = cc in
    let its : n.derivation.id ≡ id = ap node_id here ∙ same in
    let on : is_number node_id id n ≡ true = grind (arith, its) in
    rw on (sym (nowhere id (nodes_of ss) (none_above id n.derivation.id ss order.0 (omega arith))))
nodes_without (Kept n ∷ ss) (suc at) old id order is same =
    let off = other_before n old id at ss order.0 is same in
    rw off (ap (λ l. n ∷ l) (nodes_without ss at old id order.1 is same))
nodes_without (Gone other ∷ ss) zero old id order is same = absurd (cc)
nodes_without (Gone other ∷ ss) (suc at) old id order is same = nodes_without ss at old id order.1 is same

-- one fewer is there
pub one_gone : (ss : List Slot) (at : ℕ) (old : Node) (id : ℕ) → slice_get ss at ≡ Some (Kept old) → length (nodes_of (slice_set ss at (Gone id))) + 1 ≡ length (nodes_of ss)
one_gone [] zero old id is = absurd (cc)
one_gone [] (suc at) old id is = absurd (cc)
one_gone (Kept n ∷ ss) zero old id is = omega arith
one_gone (Kept n ∷ ss) (suc at) old id is = let rest = one_gone ss at old id is in omega (arith, rest)
one_gone (Gone other ∷ ss) zero old id is = absurd (cc)
one_gone (Gone other ∷ ss) (suc at) old id is = one_gone ss at old id is

-- FEWER SLOTS

pub few_nodes : (ss : List Slot) → length (nodes_of ss) ≤ length ss
few_nodes [] = omega arith
few_nodes (Kept n ∷ ss) = let rest = few_nodes ss in omega (arith, rest)
few_nodes (Gone id ∷ ss) = let rest = few_nodes ss in omega (arith, rest)

-- ONE MORE

-- slots whose ids stand before one
abbrev pub before : ℕ → List Slot → List Slot
before id ss = filter (λ s. not (is_after slot_id id s)) ss

all_before : (id : ℕ) (ss : List Slot) → AllByRecursion (λ s. slot_id s < id) (before id ss)
all_before id ss = all_from (λ s. slot_id s < id) (before id ss) (λ s i. let low = (filtered_in (λ r. not (is_after slot_id id r)) ss s i).1 in grind (arith, low))

nodes_before : (id : ℕ) (ss : List Slot) → AllByRecursion (λ n. n.derivation.id < id) (nodes_of ss) → nodes_of (before id ss) ≡ nodes_of ss
nodes_before id [] all = refl
nodes_before id (Kept n ∷ ss) all = let low = all.0 in let off : is_after slot_id id (Kept n) ≡ false = grind (arith, low) in rw off (ap (λ l. n ∷ l) (nodes_before id ss all.1))
nodes_before id (Gone other ∷ ss) all = by_test (nat_le id other) (nodes_before id ss all)
  where
    by_test : (t : Bool) → nodes_of (before id ss) ≡ nodes_of ss → nodes_of (if not t then Gone other ∷ before id ss else before id ss) ≡ nodes_of ss
    by_test true rest = rest
    by_test false rest = rest

pub record IsPushed (ss rest : List Slot) (node : Node) : Type 0 where
  pub order : AreRaised (rest ++ Kept node ∷ [])
  pub nodes : nodes_of (rest ++ Kept node ∷ []) ≡ nodes_of ss ++ node ∷ []
  pub same : nodes_of rest ≡ nodes_of ss
  pub few : length (nodes_of ss) ≤ length rest

pub pushed : (ss rest : List Slot) (node : Node) → AreRaised ss → rest ≡ before node.derivation.id ss → AllByRecursion (λ n. n.derivation.id < node.derivation.id) (nodes_of ss) → IsPushed ss rest node
pushed ss rest node order is last =
    let same : nodes_of rest ≡ nodes_of ss = ap nodes_of is ∙ nodes_before node.derivation.id ss last in
    let kept : AreRaised (before node.derivation.id ss) = pairs_filter (λ a b. slot_id a < slot_id b) (λ s. not (is_after slot_id node.derivation.id s)) ss order in
    let low = all_before node.derivation.id ss in
    record {
      order = subst (λ (rs : List Slot). AreRaised (rs ++ Kept node ∷ [])) (sym is) (pairs_more (λ a b. slot_id a < slot_id b) (before node.derivation.id ss) (Kept node) kept low);
      nodes = filter_map-append node_in rest (Kept node ∷ []) ∙ ap (λ (l : List Node). l ++ node ∷ []) same;
      same = same;
      few = subst (λ (ns : List Node). length ns ≤ length rest) same (few_nodes rest);
    }
