-- Nodes that change, one by one; what is found among nodes and among their derivations; and places that are gone through.
use Rattle.std.proofs.Common.{◌≡◌, ℕ, List, [], ◌∷◌, ap, sym, ◌∙◌, refl, inl, inr, arith, subst}
use Rattle.std.specs.Prelude.{Bool, true, false, ◌⊎◌, ◌<◌, ◌==◌, ◌||◌, not, map, length, filter, zero, suc, slice_index_or, if◌then◌else◌, Option, Some, None, option_map}
use Rattle.std.specs.List.{All, AllByRecursion, find, list_any}
use Rattle.std.proofs.lemmas.Bool.{eqb-true}
use Rattle.slab.specs.Slab.{Slab}
use Rattle.nova_model.specs.Delegations.{id_of, is_id, newest_child, older_child, with_id}
use Rattle.nova_model.specs.Forest.{ArePairs}
use Rattle.nova_model.specs.declared.delegation.Derivation.{Derivation}
use Rattle.law_forest.proofs.Members.{IsIn, all_at, all_from, contains_from_in, found_in}
use Rattle.nova_nodes.specs.declared.node.Node.{Node}
use Rattle.nova_nodes.specs.declared.node.Place.{Place}
use Rattle.nova_nodes.specs.Links.{AreLinked, IsSmall, changed_at, derivation_of, derivations, link, passes_in}
use Rattle.nova_nodes.specs.NodesStates.{IsPlaced}
use Rattle.nova_nodes.specs.Stores.{AreRising, is_number, node_at, node_id, nodes_at, put}
use Rattle.nova_nodes.proofs.Found.{not_found, pairs_at}
use Rattle.nova_nodes.proofs.Sorted.{filter_all}

-- A CHANGE OF ONE

pub changed_none : (change : Node → Node) (ns : List Node) → map (changed_at change None) ns ≡ ns
changed_none change [] = refl
changed_none change (n ∷ ns) = ap (λ l. n ∷ l) (changed_none change ns)

same_test : (id : ℕ) (n : Node) → is_id n.derivation.id (Some id) ≡ is_number node_id id n
same_test id n = by_test (is_number node_id id n) refl
  where
    by_test : (t : Bool) → is_number node_id id n ≡ t → is_id n.derivation.id (Some id) ≡ t
    by_test t h = grind (arith, h)

pub changed_nowhere : (change : Node → Node) (id : ℕ) (ns : List Node) → find (is_number node_id id) ns ≡ None → map (changed_at change (Some id)) ns ≡ ns
changed_nowhere change id [] none = refl
changed_nowhere change id (n ∷ ns) none = by_test (is_number node_id id n) refl none (λ g. changed_nowhere change id ns g)
  where
    by_test : (t : Bool) → is_number node_id id n ≡ t → find (is_number node_id id) (n ∷ ns) ≡ None → (find (is_number node_id id) ns ≡ None → map (changed_at change (Some id)) ns ≡ ns) →
        changed_at change (Some id) n ∷ map (changed_at change (Some id)) ns ≡ n ∷ ns
    by_test true h g rest = let k : find (is_number node_id id) (n ∷ ns) ≡ Some n = rw h refl in absurd (cc)
    by_test false h g rest =
        let k : find (is_number node_id id) ns ≡ None = rw h at g in
        let off : is_id n.derivation.id (Some id) ≡ false = same_test id n ∙ h in
        rw off (ap (λ l. n ∷ l) (rest k))

same_node : (ns : List Node) (a b : Node) → AreRising ns → IsIn ns a → IsIn ns b → a.derivation.id ≡ b.derivation.id → a ≡ b
same_node ns a b rising i j e = by_pair (pairs_at (λ c d. c.derivation.id < d.derivation.id) ns a b rising i j)
  where
    by_pair : (a ≡ b) ⊎ ((a.derivation.id < b.derivation.id) ⊎ (b.derivation.id < a.derivation.id)) → a ≡ b
    by_pair (inl same) = same
    by_pair (inr (inl low)) = absurd (omega arith)
    by_pair (inr (inr low)) = absurd (omega arith)

pub changed_put : (change : Node → Node) (id : ℕ) (node : Node) (ns : List Node) → ((n : Node) → (change n).derivation ≡ n.derivation) → AreRising ns → find (is_number node_id id) ns ≡ Some node →
    map (put (change node)) ns ≡ map (changed_at change (Some id)) ns
changed_put change id node ns keeps rising found = each ns (λ n i. i)
  where
    there : IsIn ns node × (is_number node_id id node ≡ true)
    there = found_in (is_number node_id id) ns node found

    its_id : (change node).derivation.id ≡ id
    its_id = ap id_of (keeps node) ∙ eqb-true node.derivation.id id there.1

    by_test : (n : Node) → IsIn ns n → (t : Bool) → is_number node_id id n ≡ t → put (change node) n ≡ changed_at change (Some id) n
    by_test n i true h =
        let same = same_node ns node n rising there.0 i (eqb-true node.derivation.id id there.1 ∙ sym (eqb-true n.derivation.id id h)) in
        let mine : (n.derivation.id == (change node).derivation.id) ≡ true = ap (λ k. n.derivation.id == k) its_id ∙ h in
        let on : is_id n.derivation.id (Some id) ≡ true = same_test id n ∙ h in
        rw (mine, on) (ap change same)
    by_test n i false h =
        let mine : (n.derivation.id == (change node).derivation.id) ≡ false = ap (λ k. n.derivation.id == k) its_id ∙ h in
        let on : is_id n.derivation.id (Some id) ≡ false = same_test id n ∙ h in
        rw (mine, on) refl

    each : (ms : List Node) → ((n : Node) → IsIn ms n → IsIn ns n) → map (put (change node)) ms ≡ map (changed_at change (Some id)) ms
    each [] among = refl
    each (n ∷ ms) among = let i = among n (inl refl) in rw (by_test n i (is_number node_id id n) refl) (ap (λ l. changed_at change (Some id) n ∷ l) (each ms (λ m j. among m (inr j))))

-- AMONG DERIVATIONS

pub found_derivation : (p : Derivation → Bool) (ns : List Node) → find p (derivations ns) ≡ option_map derivation_of (find (λ n. p n.derivation) ns)
found_derivation p [] = refl
found_derivation p (n ∷ ns) = by_test (p n.derivation) (found_derivation p ns)
  where
    by_test : (t : Bool) → find p (derivations ns) ≡ option_map derivation_of (find (λ m. p m.derivation) ns) →
        (if t then Some n.derivation else find p (derivations ns)) ≡ option_map derivation_of (if t then Some n else find (λ m. p m.derivation) ns)
    by_test true rest = refl
    by_test false rest = rest

pub rising_derivations : (ns : List Node) → AreRising ns → ArePairs (λ a b. a.id < b.id) (derivations ns)
rising_derivations [] rising = tt
rising_derivations (n ∷ ns) rising = (each ns rising.0, rising_derivations ns rising.1)
  where
    each : (ms : List Node) → AllByRecursion (λ m. n.derivation.id < m.derivation.id) ms → AllByRecursion (λ d. n.derivation.id < d.id) (derivations ms)
    each [] all = tt
    each (m ∷ ms) all = (all.0, each ms all.1)

pub of_derivations : (P : ℕ → Type 0) (ns : List Node) → AllByRecursion (λ d. P d.id) (derivations ns) → AllByRecursion (λ n. P n.derivation.id) ns
of_derivations P [] all = tt
of_derivations P (n ∷ ns) all = (all.0, of_derivations P ns all.1)

pub changed_ids : (P : ℕ → Type 0) (change : Node → Node) (to : Option ℕ) (ns : List Node) → ((n : Node) → (change n).derivation ≡ n.derivation) → AllByRecursion (λ n. P n.derivation.id) ns →
    AllByRecursion (λ n. P n.derivation.id) (map (changed_at change to) ns)
changed_ids P change to [] keeps all = tt
changed_ids P change to (n ∷ ns) keeps all = (by_test (is_id n.derivation.id to), changed_ids P change to ns keeps all.1)
  where
    by_test : (t : Bool) → P (if t then change n else n).derivation.id
    by_test true = subst (λ (d : Derivation). P d.id) (sym (keeps n)) all.0
    by_test false = all.0

-- the node that is found of an id has its links by the list
pub record IsNodeOf (nodes : List Node) (id : ℕ) (n : Node) : Type 0 where
  pub there : IsIn nodes n
  pub its_id : n.derivation.id ≡ id
  pub newest : n.newest ≡ option_map id_of (newest_child (derivations nodes) id)
  pub older : n.older ≡ option_map id_of (older_child (derivations nodes) n.derivation)
  pub found : with_id (derivations nodes) id ≡ Some n.derivation

pub node_facts : (nodes : List Node) (id : ℕ) (n : Node) → AreLinked nodes → find (is_number node_id id) nodes ≡ Some n → IsNodeOf nodes id n
node_facts nodes id n linked found =
    let there = found_in (is_number node_id id) nodes n found in
    let same = eqb-true n.derivation.id id there.1 in
    let is = all_at (λ m. m ≡ link (derivations nodes) m.derivation) nodes n linked there.0 in
    record {
      there = there.0;
      its_id = same;
      newest = ap (λ (m : Node). m.newest) is ∙ ap (λ k. option_map id_of (newest_child (derivations nodes) k)) same;
      older = ap (λ (m : Node). m.older) is;
      found = found_derivation (λ (d : Derivation). d.id == id) nodes ∙ ap (option_map derivation_of) found;
    }

pub no_node : (nodes : List Node) (id : ℕ) → find (is_number node_id id) nodes ≡ None → with_id (derivations nodes) id ≡ None
no_node nodes id none = found_derivation (λ (d : Derivation). d.id == id) nodes ∙ ap (option_map derivation_of) none

pub none_goes : (id : ℕ) (list : List Derivation) → with_id list id ≡ None → filter (λ (d : Derivation). not (d.id == id)) list ≡ list
none_goes id list none = filter_all (λ (d : Derivation). not (d.id == id)) list (all_from (λ (d : Derivation). not (d.id == id) ≡ true) list (λ d i. ap not (not_found (λ (a : Derivation). a.id == id) list d none i)))

-- PLACES THAT ARE GONE THROUGH

-- some derivation passes, if that at some place does
pub any_derivation : (test : Derivation → Bool) (slab : Slab Node) (ps : List Place) → list_any test (derivations (nodes_at slab ps)) ≡ list_any (λ p. passes_in test (node_at slab p)) ps
any_derivation test slab [] = refl
any_derivation test slab (p ∷ ps) = by_node (node_at slab p) refl (any_derivation test slab ps)
  where
    by_node : (o : Option Node) → node_at slab p ≡ o → list_any test (derivations (nodes_at slab ps)) ≡ list_any (λ q. passes_in test (node_at slab q)) ps →
        list_any test (derivations (nodes_at slab (p ∷ ps))) ≡ list_any (λ q. passes_in test (node_at slab q)) (p ∷ ps)
    by_node None is rest = rw is rest
    by_node (Some n) is rest = rw is (ap (λ b. test n.derivation || b) rest)

in_more : (slab : Slab Node) (p : Place) (ps : List Place) (n : Node) → IsIn (nodes_at slab ps) n → IsIn (nodes_at slab (p ∷ ps)) n
in_more slab p ps n i = by_node (node_at slab p) refl
  where
    by_node : (o : Option Node) → node_at slab p ≡ o → IsIn (nodes_at slab (p ∷ ps)) n
    by_node None is = rw is i
    by_node (Some m) is = rw is (inr i)

kept_in : (slab : Slab Node) (ps : List Place) (i : ℕ) (d : Place) (n : Node) → i < length ps → node_at slab (slice_index_or ps i d) ≡ Some n → IsIn (nodes_at slab ps) n
kept_in slab [] i d n less is = absurd (omega arith)
kept_in slab (p ∷ ps) zero d n less is = rw is (inl refl)
kept_in slab (p ∷ ps) (suc i) d n less is = in_more slab p ps n (kept_in slab ps i d n (omega arith) is)

derivation_in : (ns : List Node) (n : Node) → IsIn ns n → IsIn (derivations ns) n.derivation
derivation_in [] n i = absurd i
derivation_in (m ∷ ns) n (inl e) = inl (ap derivation_of e)
derivation_in (m ∷ ns) n (inr i) = inr (derivation_in ns n i)

-- what is placed is of order 20 at most
pub all_small : (slab : Slab Node) (ps : List Place) → All IsPlaced (derivations (nodes_at slab ps)) → All (λ p. IsSmall (node_at slab p)) ps
all_small slab ps placed i d less = by_node (node_at slab (slice_index_or ps i d)) refl
  where
    by_node : (o : Option Node) → node_at slab (slice_index_or ps i d) ≡ o → IsSmall o
    by_node None is = tt
    by_node (Some n) is =
        let c = contains_from_in (derivations (nodes_at slab ps)) n.derivation (derivation_in (nodes_at slab ps) n (kept_in slab ps i d n less is)) in
        let it : IsPlaced n.derivation = subst IsPlaced c.2 (placed c.0 n.derivation c.1) in
        it.range.order
