-- Links are what the list says once one derivation is gone.
use Rattle.std.proofs.Common.{◌≡◌, ℕ, ◌<◌, List, [], ◌∷◌, ap, sym, ◌∙◌, refl, inl, inr, arith, subst}
use Rattle.std.specs.Prelude.{Bool, true, false, ◌==◌, not, map, filter, if◌then◌else◌, Option, Some, None}
use Rattle.std.specs.List.{AllByRecursion}
use Rattle.std.proofs.lemmas.Bool.{eqb-true}
use Rattle.nova_model.specs.Delegations.{is_child_of, is_id}
use Rattle.nova_model.specs.declared.delegation.Derivation.{Derivation}
use Rattle.law_forest.proofs.Members.{IsIn, filtered_in}
use Rattle.nova_nodes.specs.declared.node.Node.{Node}
use Rattle.nova_nodes.specs.Links.{AreLinked, changed_at, derivations, left, link, past}
use Rattle.nova_nodes.specs.Stores.{is_number, node_id}
use Rattle.nova_nodes.proofs.Links.{AreOfOne, IsFamily, derivation_in, family_at, family_from, most_at, older_at, older_facts, older_passes, older_test, parent_at, younger_at, younger_facts, younger_passes, younger_test}
use Rattle.nova_nodes.proofs.Most.{Above, AreRising, Below, IsMost, IsMostOf, IsNext, most_passes, others, rising_others}

-- PAST A NODE THAT GOES

past_off : (gone : ℕ) (next o : Option ℕ) → (o ≡ Some gone → ⊥) → past gone next o ≡ o
past_off gone next None off = refl
past_off gone next (Some id) off = by_test (id == gone) refl
  where
    by_test : (t : Bool) → (id == gone) ≡ t → (if t then next else Some id) ≡ Some id
    by_test true h = absurd (off (ap (λ n. Some n) (eqb-true id gone h)))
    by_test false h = refl

past_twice : (gone : ℕ) (next o : Option ℕ) → (next ≡ Some gone → ⊥) → past gone next (past gone next o) ≡ past gone next o
past_twice gone next None off = refl
past_twice gone next (Some id) off = by_test (id == gone) refl
  where
    by_test : (t : Bool) → (id == gone) ≡ t → past gone next (if t then next else Some id) ≡ (if t then next else Some id)
    by_test true h = past_off gone next next off
    by_test false h = rw h refl

-- WHAT IS NEXT TO WHAT GOES

next_newest : (id gone : ℕ) (o : Option ℕ) (list : List Derivation) → o ≡ Some id → IsNext Below (is_child_of id) (older_test o gone) list gone
next_newest id gone o list is = record {
  within = λ d i h. let f = older_facts o gone d h in child d f.0;
  apart = λ d i h e. let low = (older_facts o gone d h).1 in absurd (omega arith);
  behind = λ d i h low off. older_passes o gone d (record { parent = id; first = is; second = named d h }) (let apart = off in grind (arith, low, apart));
}
  where
    named : (d : Derivation) → is_child_of id d ≡ true → d.parent ≡ Some id
    named d h = from d.parent h
      where
        from : (p : Option ℕ) → is_id id p ≡ true → p ≡ Some id
        from None h = absurd (cc)
        from (Some other) h = ap (λ n. Some n) (eqb-true other id h)

    child : (d : Derivation) → AreOfOne o d.parent → is_child_of id d ≡ true
    child d one = let e : Some one.parent ≡ Some id = sym one.first ∙ is in let same : one.parent ≡ id = cc in rw (one.second) (grind (arith, same))

next_older : (o p : Option ℕ) (id gone : ℕ) (list : List Derivation) → p ≡ o → gone < id → IsNext Below (older_test o id) (older_test p gone) list gone
next_older o p id gone list is less = record {
  within = λ d i h. let f = older_facts p gone d h in let low = f.1 in older_passes o id d (same d f.0) (omega arith);
  apart = λ d i h e. let low = (older_facts p gone d h).1 in absurd (omega arith);
  behind = λ d i h low off. older_passes p gone d (back d (older_facts o id d h).0) (let apart = off in grind (arith, low, apart));
}
  where
    same : (d : Derivation) → AreOfOne p d.parent → AreOfOne o d.parent
    same d one = record { parent = one.parent; first = sym is ∙ one.first; second = one.second }

    back : (d : Derivation) → AreOfOne o d.parent → AreOfOne p d.parent
    back d one = record { parent = one.parent; first = is ∙ one.first; second = one.second }

next_younger : (o p : Option ℕ) (id gone : ℕ) (list : List Derivation) → p ≡ o → id < gone → IsNext Above (younger_test o id) (younger_test p gone) list gone
next_younger o p id gone list is less = record {
  within = λ d i h. let f = younger_facts p gone d h in let low = f.1 in younger_passes o id d (same d f.0) (omega arith);
  apart = λ d i h e. let low = (younger_facts p gone d h).1 in absurd (omega arith);
  behind = λ d i h low off. younger_passes p gone d (back d (younger_facts o id d h).0) (let apart = off in grind (arith, low, apart));
}
  where
    same : (d : Derivation) → AreOfOne p d.parent → AreOfOne o d.parent
    same d one = record { parent = one.parent; first = sym is ∙ one.first; second = one.second }

    back : (d : Derivation) → AreOfOne o d.parent → AreOfOne p d.parent
    back d one = record { parent = one.parent; first = is ∙ one.first; second = one.second }

-- THE NODES THAT ARE LEFT

most_named : (le : ℕ → ℕ → Type 0) (p : Derivation → Bool) (list : List Derivation) (o : Option ℕ) (id : ℕ) → IsMostOf le p list o → o ≡ Some id → IsMost le p list id
most_named le p list o id m is = subst (IsMostOf le p list) is m

child_named : (id : ℕ) (p : Option ℕ) → is_id id p ≡ true → p ≡ Some id
child_named id None h = absurd (cc)
child_named id (Some other) h = ap (λ n. Some n) (eqb-true other id h)

same_parents : {a b : Option ℕ} → AreOfOne a b → b ≡ a
same_parents one = one.second ∙ sym one.first

-- with the rest a node is linked once it is led past the node that goes
pub family_left : (list : List Derivation) (n y : Node) → AreRising list → IsFamily list n → IsFamily list y → IsIn list n.derivation → IsIn list y.derivation →
    IsFamily (others y.derivation.id list) (left y n)
family_left list n y rising fn fy i j = record {
  newest = most_passes Below (is_child_of n.derivation.id) (older_test y.derivation.parent y.derivation.id) list y.derivation.id n.newest y.older
      (λ is. next_newest n.derivation.id y.derivation.id y.derivation.parent list (child_named n.derivation.id y.derivation.parent (parent_at list n y rising j (most_named Below (is_child_of n.derivation.id) list n.newest y.derivation.id fn.newest is))))
      fn.newest fy.older;
  older = most_passes Below (older_test n.derivation.parent n.derivation.id) (older_test y.derivation.parent y.derivation.id) list y.derivation.id n.older y.older
      (λ is. let f = older_facts n.derivation.parent n.derivation.id y.derivation (most_at Below (older_test n.derivation.parent n.derivation.id) list y.derivation rising j (most_named Below (older_test n.derivation.parent n.derivation.id) list n.older y.derivation.id fn.older is)) in
      next_older n.derivation.parent y.derivation.parent n.derivation.id y.derivation.id list (same_parents f.0) f.1)
      fn.older fy.older;
  younger = most_passes Above (younger_test n.derivation.parent n.derivation.id) (younger_test y.derivation.parent y.derivation.id) list y.derivation.id n.younger y.younger
      (λ is. let f = younger_facts n.derivation.parent n.derivation.id y.derivation (most_at Above (younger_test n.derivation.parent n.derivation.id) list y.derivation rising j (most_named Above (younger_test n.derivation.parent n.derivation.id) list n.younger y.derivation.id fn.younger is)) in
      next_younger n.derivation.parent y.derivation.parent n.derivation.id y.derivation.id list (same_parents f.0) f.1)
      fn.younger fy.younger;
}

-- THREE NODES ALONE HAVE LINKS TO ONE

not_older : (list : List Derivation) (y : Node) → IsFamily list y → y.older ≡ Some y.derivation.id → ⊥
not_older list y f is =
    let m = most_named Below (older_test y.derivation.parent y.derivation.id) list y.older y.derivation.id f.older is in
    let low = (older_facts y.derivation.parent y.derivation.id m.of m.passes).1 in
    let id = m.its_id in
    absurd (omega arith)

not_younger : (list : List Derivation) (y : Node) → IsFamily list y → y.younger ≡ Some y.derivation.id → ⊥
not_younger list y f is =
    let m = most_named Above (younger_test y.derivation.parent y.derivation.id) list y.younger y.derivation.id f.younger is in
    let low = (younger_facts y.derivation.parent y.derivation.id m.of m.passes).1 in
    let id = m.its_id in
    absurd (omega arith)

abbrev pub node_with : Derivation → Option ℕ → Option ℕ → Option ℕ → Node
node_with d newest older younger = record { derivation = d; newest = newest; older = older; younger = younger }

pub node_same : (d : Derivation) (a b c a' b' c' : Option ℕ) → a ≡ a' → b ≡ b' → c ≡ c' → node_with d a b c ≡ node_with d a' b' c'
node_same d a b c a' b' c' e f g = ap (λ o. node_with d o b c) e ∙ ap (λ o. node_with d a' o c) f ∙ ap (λ o. node_with d a' b' o) g

left_twice : (list : List Derivation) (n y : Node) → IsFamily list y → left y (left y n) ≡ left y n
left_twice list n y f = node_same n.derivation _ _ _ _ _ _ (past_twice y.derivation.id y.older n.newest (not_older list y f)) (past_twice y.derivation.id y.older n.older (not_older list y f))
    (past_twice y.derivation.id y.younger n.younger (not_younger list y f))

-- where no link of a node leads to it, it stays
left_off : (list : List Derivation) (n y : Node) → AreRising list → IsFamily list n → IsFamily list y → IsIn list n.derivation → IsIn list y.derivation → is_id n.derivation.id y.derivation.parent ≡ false →
    is_id n.derivation.id y.older ≡ false → is_id n.derivation.id y.younger ≡ false → left y n ≡ n
left_off list n y rising fn fy i j parent older younger = node_same n.derivation _ _ _ _ _ _
    (past_off y.derivation.id y.older n.newest (λ is. let on = parent_at list n y rising j (most_named Below (is_child_of n.derivation.id) list n.newest y.derivation.id fn.newest is) in absurd (cc)))
    (past_off y.derivation.id y.older n.older (λ is. let on = younger_at list n y rising fn fy i j (most_named Below (older_test n.derivation.parent n.derivation.id) list n.older y.derivation.id fn.older is) in absurd (cc)))
    (past_off y.derivation.id y.younger n.younger (λ is. let on = older_at list n y rising fn fy i j (most_named Above (younger_test n.derivation.parent n.derivation.id) list n.younger y.derivation.id fn.younger is) in absurd (cc)))

-- changes of the node of an id, one after the other
abbrev pub three : (Node → Node) → Option ℕ → Option ℕ → Option ℕ → Node → Node
three change a b c n = changed_at change c (changed_at change b (changed_at change a n))

settled : (change : Node → Node) (to : Option ℕ) (n : Node) → change n ≡ n → changed_at change to n ≡ n
settled change to n same = by_test (is_id n.derivation.id to)
  where
    by_test : (t : Bool) → (if t then change n else n) ≡ n
    by_test true = same
    by_test false = refl

pub all_three : (change : Node → Node) (a b c : Option ℕ) (n : Node) → change (change n) ≡ change n →
    (is_id n.derivation.id a ≡ false → is_id n.derivation.id b ≡ false → is_id n.derivation.id c ≡ false → change n ≡ n) → three change a b c n ≡ change n
all_three change a b c n twice off = by_tests (is_id n.derivation.id a) (is_id n.derivation.id b) (is_id n.derivation.id c) refl refl refl
  where
    done : (to : Option ℕ) → changed_at change to (change n) ≡ change n
    done to = settled change to (change n) twice

    by_tests : (s t u : Bool) → is_id n.derivation.id a ≡ s → is_id n.derivation.id b ≡ t → is_id n.derivation.id c ≡ u → three change a b c n ≡ change n
    by_tests true t u h k l = rw h (ap (changed_at change c) (done b) ∙ done c)
    by_tests false true u h k l = rw (h, k) (done c)
    by_tests false false true h k l = rw (h, k, l) refl
    by_tests false false false h k l = rw (h, k, l) (sym (off h k l))

-- the nodes but one, each changed
abbrev pub thrice : (Node → Node) → Option ℕ → Option ℕ → Option ℕ → List Node → List Node
thrice change a b c ns = map (changed_at change c) (map (changed_at change b) (map (changed_at change a) ns))

abbrev pub but : ℕ → List Node → List Node
but id ns = filter (λ n. not (is_number node_id id n)) ns

kept_changed : (change : Node → Node) (a b c : Option ℕ) (id : ℕ) (ns : List Node) → ((n : Node) → (change n).derivation ≡ n.derivation) →
    ((n : Node) → IsIn ns n → three change a b c n ≡ change n) → but id (thrice change a b c ns) ≡ map change (but id ns)
kept_changed change a b c id [] keeps all = refl
kept_changed change a b c id (n ∷ ns) keeps all =
    subst (λ (m : Node). but id (m ∷ thrice change a b c ns) ≡ map change (but id (n ∷ ns))) (sym (all n (inl refl)))
    (by_test (is_number node_id id n) refl (ap (λ (d : Derivation). d.id == id) (keeps n)) (kept_changed change a b c id ns keeps (λ m i. all m (inr i))))
  where
    by_test : (t : Bool) → is_number node_id id n ≡ t → is_number node_id id (change n) ≡ is_number node_id id n → but id (thrice change a b c ns) ≡ map change (but id ns) →
        but id (change n ∷ thrice change a b c ns) ≡ map change (but id (n ∷ ns))
    by_test true h same rest = let k : is_number node_id id (change n) ≡ true = same ∙ h in rw (h, k) rest
    by_test false h same rest = let k : is_number node_id id (change n) ≡ false = same ∙ h in rw (h, k) (ap (λ l. change n ∷ l) rest)

derivations_left : (y : Node) (id : ℕ) (ns : List Node) → derivations (map (left y) (filter (λ n. not (is_number node_id id n)) ns)) ≡ others id (derivations ns)
derivations_left y id [] = refl
derivations_left y id (n ∷ ns) = by_test (is_number node_id id n) (derivations_left y id ns)
  where
    by_test : (t : Bool) → derivations (map (left y) (filter (λ n. not (is_number node_id id n)) ns)) ≡ others id (derivations ns) →
        derivations (map (left y) (if not t then n ∷ filter (λ n. not (is_number node_id id n)) ns else filter (λ n. not (is_number node_id id n)) ns)) ≡ (if not t then n.derivation ∷ others id (derivations ns) else others id (derivations ns))
    by_test true rest = rest
    by_test false rest = ap (λ l. n.derivation ∷ l) rest

all_mapped : (P : Node → Type 0) (f : Node → Node) (ns : List Node) → ((n : Node) → IsIn ns n → P (f n)) → AllByRecursion P (map f ns)
all_mapped P f [] h = tt
all_mapped P f (n ∷ ns) h = (h n (inl refl), all_mapped P f ns (λ m i. h m (inr i)))

-- ONE LESS

pub record AreLeft (nodes : List Node) (y : Node) (after : List Node) : Type 0 where
  pub linked : AreLinked after
  pub derivations : derivations after ≡ others y.derivation.id (derivations nodes)

pub links_less : (nodes : List Node) (y : Node) → AreRising (derivations nodes) → AreLinked nodes → IsIn nodes y →
    AreLeft nodes y (but y.derivation.id (thrice (left y) y.derivation.parent y.older y.younger nodes))
links_less nodes y rising linked j = subst (AreLeft nodes y) (sym changed) (record { linked = all; derivations = derivations_left y y.derivation.id nodes })
  where
    fy : IsFamily (derivations nodes) y
    fy = family_at nodes y linked j

    each : (n : Node) → IsIn nodes n → three (left y) y.derivation.parent y.older y.younger n ≡ left y n
    each n i = all_three (left y) y.derivation.parent y.older y.younger n (left_twice (derivations nodes) n y fy)
        (left_off (derivations nodes) n y rising (family_at nodes n linked i) fy (derivation_in nodes n i) (derivation_in nodes y j))

    changed : but y.derivation.id (thrice (left y) y.derivation.parent y.older y.younger nodes) ≡ map (left y) (but y.derivation.id nodes)
    changed = kept_changed (left y) y.derivation.parent y.older y.younger y.derivation.id nodes (λ n. refl) each

    all : AreLinked (map (left y) (but y.derivation.id nodes))
    all = subst (λ (ds : List Derivation). AllByRecursion (λ n. n ≡ link ds n.derivation) (map (left y) (but y.derivation.id nodes))) (sym (derivations_left y y.derivation.id nodes))
        (all_mapped (λ n. n ≡ link (others y.derivation.id (derivations nodes)) n.derivation) (left y) (but y.derivation.id nodes)
        (λ n i. let k = filtered_in (λ m. not (is_number node_id y.derivation.id m)) nodes n i in
        family_from (others y.derivation.id (derivations nodes)) (left y n) (rising_others y.derivation.id (derivations nodes) rising)
        (family_left (derivations nodes) n y rising (family_at nodes n linked k.0) fy (derivation_in nodes n k.0) (derivation_in nodes y j))))
