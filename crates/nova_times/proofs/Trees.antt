-- The root of a tree is the least of its leaves, and a change is mended on the way up.
use Rattle.std.proofs.Common.{◌≡◌, ℕ, zero, suc, ◌+◌, ◌-◌, ◌*◌, ◌<◌, ◌≤◌, List, [], ◌∷◌, length, refl, ap, ap₂, sym, subst, ◌∙◌, inl, inr, arith}
use Rattle.std.specs.Prelude.{◌⊎◌, ◌/◌, ◌==◌, nat_lt, Bool, true, false, slice_set, Option, Some, None}
use Rattle.nova_times.specs.Entries.{lesser}
use Rattle.nova_times.specs.Trees.{IsTree, IsTreeBut, IsTreeFrom, leaf, least_of, node, of_children}
use Rattle.nova_times.specs.declared.entry.Entry.{Entry}
use Rattle.nova_times.proofs.Orders.{NoLater, lesser_in, lesser_left, lesser_right, no_later_self, no_later_through, same_least}

-- LEAVES

pub leaf_beyond : (xs : List (Option Entry)) (n : ℕ) → length xs ≤ n → leaf xs n ≡ None
leaf_beyond [] n low = refl
leaf_beyond (x ∷ xs) zero low = absurd (omega arith)
leaf_beyond (x ∷ xs) (suc n) low = leaf_beyond xs n (omega arith)

pub leaf_set_same : (xs : List (Option Entry)) (n : ℕ) (e : Option Entry) → n < length xs → leaf (slice_set xs n e) n ≡ e
leaf_set_same [] n e lt = absurd (omega arith)
leaf_set_same (x ∷ xs) zero e lt = refl
leaf_set_same (x ∷ xs) (suc n) e lt = leaf_set_same xs n e (omega arith)

pub leaf_set_other : (xs : List (Option Entry)) (n other : ℕ) (e : Option Entry) → (other ≡ n → ⊥) → leaf (slice_set xs n e) other ≡ leaf xs other
leaf_set_other [] n other e off = refl
leaf_set_other (x ∷ xs) zero zero e off = absurd (off refl)
leaf_set_other (x ∷ xs) zero (suc other) e off = refl
leaf_set_other (x ∷ xs) (suc n) zero e off = refl
leaf_set_other (x ∷ xs) (suc n) (suc other) e off = leaf_set_other xs n other e (λ h. off (ap suc h))

pub length_leaves : (xs : List (Option Entry)) (n : ℕ) (e : Option Entry) → length (slice_set xs n e) ≡ length xs
length_leaves [] n e = refl
length_leaves (x ∷ xs) zero e = refl
length_leaves (x ∷ xs) (suc n) e = ap suc (length_leaves xs n e)

-- THE LEAST OF ALL

pub record IsLeaf (xs : List (Option Entry)) (e : Entry) : Type 0 where
  pub place : ℕ
  pub is : leaf xs place ≡ Some e

pub least_in : (xs : List (Option Entry)) (e : Entry) → least_of xs ≡ Some e → IsLeaf xs e
least_in [] e h = absurd cc
least_in (x ∷ xs) e h = by_side (lesser_in x (least_of xs) e h) (λ is. least_in xs e is)
  where
    later : IsLeaf xs e → IsLeaf (x ∷ xs) e
    later at = record { place = suc at.place; is = at.is }

    by_side : (x ≡ Some e) ⊎ (least_of xs ≡ Some e) → (least_of xs ≡ Some e → IsLeaf xs e) → IsLeaf (x ∷ xs) e
    by_side (inl is) rest = record { place = 0; is = is }
    by_side (inr is) rest = later (rest is)

pub least_before : (xs : List (Option Entry)) (n : ℕ) (e : Entry) → leaf xs n ≡ Some e → NoLater (least_of xs) e
least_before [] n e h = absurd cc
least_before (x ∷ xs) zero e h = lesser_left x (least_of xs) e (no_later_self x e h)
least_before (x ∷ xs) (suc n) e h = lesser_right x (least_of xs) e (least_before xs n e h)

pub least_same : (xs ys : List (Option Entry)) → ((n : ℕ) → leaf ys n ≡ leaf xs n) → least_of ys ≡ least_of xs
least_same xs ys same = same_least (least_of ys) (least_of xs) (λ e h. first e (least_in ys e h)) (λ e h. second e (least_in xs e h))
  where
    first : (e : Entry) → IsLeaf ys e → NoLater (least_of xs) e
    first e at = least_before xs at.place e (sym (same at.place) ∙ at.is)

    second : (e : Entry) → IsLeaf xs e → NoLater (least_of ys) e
    second e at = least_before ys at.place e (same at.place ∙ at.is)

-- NODES

node_inner : (inner leaves : List (Option Entry)) (i : ℕ) → i < length inner → node inner leaves i ≡ leaf inner i
node_inner inner leaves i lt = let on : nat_lt i (length inner) ≡ true = grind (arith, lt) in rw on refl

node_leaf : (inner leaves : List (Option Entry)) (i : ℕ) → length inner ≤ i → node inner leaves i ≡ leaf leaves (i - length inner)
node_leaf inner leaves i le = let off : nat_lt i (length inner) ≡ false = grind (arith, le) in rw off refl

-- the root is no later than any node
root_before : (inner leaves : List (Option Entry)) → IsTree inner leaves → (fuel i : ℕ) (e : Entry) → i ≤ fuel → 1 ≤ i → node inner leaves i ≡ Some e → NoLater (node inner leaves 1) e
root_before inner leaves tree zero i e le low is = absurd (omega arith)
root_before inner leaves tree (suc fuel) zero e le low is = absurd (omega arith)
root_before inner leaves tree (suc fuel) (suc zero) e le low is = no_later_self (node inner leaves 1) e is
root_before inner leaves tree (suc fuel) (suc (suc k)) e le low is = by_side (nat_lt up (length inner)) refl (λ q at. root_before inner leaves tree fuel up q (omega arith) (omega arith) at)
  where
    up : ℕ
    up = (suc (suc k)) / 2

    parent : up < length inner → (suc (suc k) ≡ 2 * up) ⊎ (suc (suc k) ≡ 2 * up + 1) → NoLater (node inner leaves up) e
    parent lt (inl left) =
        let at : node inner leaves up ≡ of_children inner leaves up = node_inner inner leaves up lt ∙ tree.each up (omega arith) lt in
        subst (λ (o : Option Entry). NoLater o e) (sym at)
        (lesser_left (node inner leaves (2 * up)) (node inner leaves (2 * up + 1)) e (no_later_self (node inner leaves (2 * up)) e (ap (node inner leaves) (sym left) ∙ is)))
    parent lt (inr right) =
        let at : node inner leaves up ≡ of_children inner leaves up = node_inner inner leaves up lt ∙ tree.each up (omega arith) lt in
        subst (λ (o : Option Entry). NoLater o e) (sym at)
        (lesser_right (node inner leaves (2 * up)) (node inner leaves (2 * up + 1)) e (no_later_self (node inner leaves (2 * up + 1)) e (ap (node inner leaves) (sym right) ∙ is)))

    by_half : (suc (suc k) ≡ 2 * up) ⊎ (suc (suc k) ≡ 2 * up + 1)
    by_half = by_test (suc (suc k) == 2 * up) refl
      where
        by_test : (t : Bool) → (suc (suc k) == 2 * up) ≡ t → (suc (suc k) ≡ 2 * up) ⊎ (suc (suc k) ≡ 2 * up + 1)
        by_test true h = inl (grind (arith, h))
        by_test false h = inr (let off : suc (suc k) ≡ 2 * up → ⊥ = λ e. absurd (grind (arith, h, e)) in omega arith)

    by_side : (t : Bool) → nat_lt up (length inner) ≡ t → ((q : Entry) → node inner leaves up ≡ Some q → NoLater (node inner leaves 1) q) → NoLater (node inner leaves 1) e
    by_side true h rest =
        let lt : up < length inner = grind (arith, h) in
        no_later_through (node inner leaves 1) (node inner leaves up) e (parent lt by_half) rest
    by_side false h rest =
        let le : length inner ≤ up = grind (arith, h) in
        let size = tree.size in
        let none : node inner leaves (suc (suc k)) ≡ None = node_leaf inner leaves (suc (suc k)) (omega arith) ∙ leaf_beyond leaves (suc (suc k) - length inner) (omega arith) in
        absurd (cc)

-- what a node has stands at a leaf
node_in : (inner leaves : List (Option Entry)) → IsTree inner leaves → (fuel i : ℕ) (e : Entry) → length inner ≤ i + fuel → 1 ≤ i → node inner leaves i ≡ Some e → IsLeaf leaves e
node_in inner leaves tree zero i e le low is = record { place = i - length inner; is = sym (node_leaf inner leaves i (omega arith)) ∙ is }
node_in inner leaves tree (suc fuel) i e le low is =
    by_side (nat_lt i (length inner)) refl (λ at. node_in inner leaves tree fuel (2 * i) e (omega arith) (omega arith) at) (λ at. node_in inner leaves tree fuel (2 * i + 1) e (omega arith) (omega arith) at)
  where
    by_child : (node inner leaves (2 * i) ≡ Some e) ⊎ (node inner leaves (2 * i + 1) ≡ Some e) → (node inner leaves (2 * i) ≡ Some e → IsLeaf leaves e) → (node inner leaves (2 * i + 1) ≡ Some e → IsLeaf leaves e) → IsLeaf leaves e
    by_child (inl at) left right = left at
    by_child (inr at) left right = right at

    by_side : (t : Bool) → nat_lt i (length inner) ≡ t → (node inner leaves (2 * i) ≡ Some e → IsLeaf leaves e) → (node inner leaves (2 * i + 1) ≡ Some e → IsLeaf leaves e) → IsLeaf leaves e
    by_side true h left right =
        let lt : i < length inner = grind (arith, h) in
        by_child (lesser_in (node inner leaves (2 * i)) (node inner leaves (2 * i + 1)) e (sym (node_inner inner leaves i lt ∙ tree.each i low lt) ∙ is)) left right
    by_side false h left right =
        let le : length inner ≤ i = grind (arith, h) in
        record { place = i - length inner; is = sym (node_leaf inner leaves i le) ∙ is }

pub root_is : (inner leaves : List (Option Entry)) → IsTree inner leaves → node inner leaves 1 ≡ least_of leaves
root_is inner leaves tree = same_least (node inner leaves 1) (least_of leaves) (λ e h. there e (node_in inner leaves tree (length inner) 1 e (omega arith) (omega arith) h)) (λ e h. first e (least_in leaves e h))
  where
    there : (e : Entry) → IsLeaf leaves e → NoLater (least_of leaves) e
    there e at = least_before leaves at.place e at.is

    first : (e : Entry) → IsLeaf leaves e → NoLater (node inner leaves 1) e
    first e at = by_size (length inner) refl
      where
        size : length leaves ≡ length inner
        size = tree.size

        node_is : node inner leaves (length inner + at.place) ≡ Some e
        node_is =
            let same : length inner + at.place - length inner ≡ at.place = omega arith in
            node_leaf inner leaves (length inner + at.place) (omega arith) ∙ ap (leaf leaves) same ∙ at.is

        by_size : (m : ℕ) → length inner ≡ m → NoLater (node inner leaves 1) e
        by_size zero h =
            let none = leaf_beyond leaves at.place (omega arith) in
            let is = at.is in
            absurd (cc)
        by_size (suc m) h = root_before inner leaves tree (length inner + at.place) (length inner + at.place) e (omega arith) (omega arith) node_is

-- CHANGES

node_set_other : (inner leaves : List (Option Entry)) (i j : ℕ) (e : Option Entry) → (j ≡ i → ⊥) → i < length inner → node (slice_set inner i e) leaves j ≡ node inner leaves j
node_set_other inner leaves i j e off lt = by_side (nat_lt j (length inner)) refl
  where
    by_side : (t : Bool) → nat_lt j (length inner) ≡ t → node (slice_set inner i e) leaves j ≡ node inner leaves j
    by_side true h =
        let low : j < length inner = grind (arith, h) in
        let count = length_leaves inner i e in
        node_inner (slice_set inner i e) leaves j (omega arith) ∙ leaf_set_other inner i j e off ∙ sym (node_inner inner leaves j low)
    by_side false h =
        let high : length inner ≤ j = grind (arith, h) in
        let count = length_leaves inner i e in
        node_leaf (slice_set inner i e) leaves j (omega arith) ∙ ap (λ (n : ℕ). leaf leaves (j - n)) count ∙ sym (node_leaf inner leaves j high)

children_other : (inner leaves : List (Option Entry)) (i j : ℕ) (e : Option Entry) → (2 * j ≡ i → ⊥) → (2 * j + 1 ≡ i → ⊥) → i < length inner → of_children (slice_set inner i e) leaves j ≡ of_children inner leaves j
children_other inner leaves i j e left right lt = ap₂ lesser (node_set_other inner leaves i (2 * j) e left lt) (node_set_other inner leaves i (2 * j + 1) e right lt)

-- a node is mended: only the node above may be odd now
pub settled : (inner leaves : List (Option Entry)) (i : ℕ) → 1 ≤ i → i < length inner → IsTreeBut i inner leaves → IsTreeBut (i / 2) (slice_set inner i (of_children inner leaves i)) leaves
settled inner leaves i low lt tree = record {
  size = tree.size ∙ sym (length_leaves inner i (of_children inner leaves i));
  each = λ j one more off. by_place j one (let count = length_leaves inner i (of_children inner leaves i) in omega arith) off (j == i) refl;
}
  where
    by_place : (j : ℕ) → 1 ≤ j → j < length inner → (j ≡ i / 2 → ⊥) → (t : Bool) → (j == i) ≡ t → leaf (slice_set inner i (of_children inner leaves i)) j ≡ of_children (slice_set inner i (of_children inner leaves i)) leaves j
    by_place j one more off true h =
        let same : j ≡ i = grind (arith, h) in
        subst (λ (k : ℕ). leaf (slice_set inner i (of_children inner leaves i)) k ≡ of_children (slice_set inner i (of_children inner leaves i)) leaves k) (sym same)
        (leaf_set_same inner i (of_children inner leaves i) lt ∙ sym (children_other inner leaves i i (of_children inner leaves i) (λ k. absurd (omega arith)) (λ k. absurd (omega arith)) lt))
    by_place j one more off false h =
        let apart : j ≡ i → ⊥ = λ k. absurd (grind (arith, h, k)) in
        leaf_set_other inner i j (of_children inner leaves i) apart ∙ tree.each j one more apart
        ∙ sym (children_other inner leaves i j (of_children inner leaves i) (λ k. off (omega arith)) (λ k. off (omega arith)) lt)

pub all_settled : (inner leaves : List (Option Entry)) → IsTreeBut 0 inner leaves → IsTree inner leaves
all_settled inner leaves tree = record { size = tree.size; each = λ i one lt. tree.each i one lt (λ h. absurd (omega arith)) }

-- from the last node down to the first
built_at : (inner leaves : List (Option Entry)) (i : ℕ) → 1 ≤ i → suc i ≤ length inner → IsTreeFrom (suc i) inner leaves → IsTreeFrom i (slice_set inner i (of_children inner leaves i)) leaves
built_at inner leaves i low le tree = record {
  size = tree.size ∙ sym (length_leaves inner i (of_children inner leaves i));
  each = λ j from one more. by_place j from one (let count = length_leaves inner i (of_children inner leaves i) in omega arith) (j == i) refl;
}
  where
    by_place : (j : ℕ) → i ≤ j → 1 ≤ j → j < length inner → (t : Bool) → (j == i) ≡ t → leaf (slice_set inner i (of_children inner leaves i)) j ≡ of_children (slice_set inner i (of_children inner leaves i)) leaves j
    by_place j from one more true h =
        let same : j ≡ i = grind (arith, h) in
        subst (λ (k : ℕ). leaf (slice_set inner i (of_children inner leaves i)) k ≡ of_children (slice_set inner i (of_children inner leaves i)) leaves k) (sym same)
        (leaf_set_same inner i (of_children inner leaves i) (omega arith) ∙ sym (children_other inner leaves i i (of_children inner leaves i) (λ k. absurd (omega arith)) (λ k. absurd (omega arith)) (omega arith)))
    by_place j from one more false h =
        let apart : j ≡ i → ⊥ = λ k. absurd (grind (arith, h, k)) in
        leaf_set_other inner i j (of_children inner leaves i) apart ∙ tree.each j (omega arith) one more
        ∙ sym (children_other inner leaves i j (of_children inner leaves i) (λ k. absurd (omega arith)) (λ k. absurd (omega arith)) (omega arith))

pub built : (inner leaves : List (Option Entry)) (i : ℕ) → 1 < i → i ≤ length inner → IsTreeFrom i inner leaves → IsTreeFrom (i - 1) (slice_set inner (i - 1) (of_children inner leaves (i - 1))) leaves
built inner leaves i low le tree =
    let same : suc (i - 1) ≡ i = omega arith in
    built_at inner leaves (i - 1) (omega arith) (omega arith) (subst (λ (k : ℕ). IsTreeFrom k inner leaves) (sym same) tree)

pub all_built : (inner leaves : List (Option Entry)) (i : ℕ) → i ≤ 1 → IsTreeFrom i inner leaves → IsTree inner leaves
all_built inner leaves i le tree = record { size = tree.size; each = λ j one lt. tree.each j (omega arith) one lt }

-- a leaf has changed: only the node above it may be odd
pub put_in : (inner leaves : List (Option Entry)) (n : ℕ) (e : Option Entry) → n < length leaves → IsTree inner leaves → IsTreeBut ((length leaves + n) / 2) inner (slice_set leaves n e)
put_in inner leaves n e lt tree = record {
  size = length_leaves leaves n e ∙ tree.size;
  each = λ j one more off. tree.each j one more ∙ sym (ap₂ lesser (same (2 * j) (λ h. off (let size = tree.size in omega arith))) (same (2 * j + 1) (λ h. off (let size = tree.size in omega arith))));
}
  where
    same : (i : ℕ) → (i ≡ length inner + n → ⊥) → node inner (slice_set leaves n e) i ≡ node inner leaves i
    same i off = by_side (nat_lt i (length inner)) refl
      where
        by_side : (t : Bool) → nat_lt i (length inner) ≡ t → node inner (slice_set leaves n e) i ≡ node inner leaves i
        by_side true h = rw h refl
        by_side false h =
            let high : length inner ≤ i = grind (arith, h) in
            node_leaf inner (slice_set leaves n e) i high ∙ leaf_set_other leaves n (i - length inner) e (λ k. off (omega arith)) ∙ sym (node_leaf inner leaves i high)
