-- Links are what the list says once a derivation has joined.
use Rattle.std.proofs.Common.{◌≡◌, ℕ, ◌<◌, ◌≤◌, List, [], ◌∷◌, ◌++◌, ap, sym, ◌∙◌, refl, inl, inr, arith, subst}
use Rattle.std.specs.Prelude.{Bool, true, false, ◌⊎◌, ◌==◌, map, if◌then◌else◌, Option, Some, None, option_map, IfSome, IsSome}
use Rattle.std.specs.List.{AllByRecursion}
use Rattle.nova_model.specs.Delegations.{id_of, is_child_of, is_id, newest_child, with_id}
use Rattle.nova_model.specs.Forest.{IsChildless}
use Rattle.nova_model.specs.declared.delegation.Derivation.{Derivation}
use Rattle.law_forest.proofs.Members.{IsIn, all_at, all_more, found_in}
use Rattle.nova_nodes.specs.declared.node.Node.{Node}
use Rattle.nova_nodes.specs.Links.{AreLinked, changed_at, derivations, is_child_in, joined, link, or_else}
use Rattle.nova_nodes.proofs.Indexed.{in_either}
use Rattle.nova_nodes.proofs.Links.{IsFamily, child_facts, child_passes, derivation_in, family_at, family_from, newest_at, older_facts, older_test, younger_facts, younger_passes, younger_test}
use Rattle.nova_nodes.proofs.Most.{Above, AreRising, Below, IsMostOf, most_joins, most_later, most_same, most_stays, newest_facts}
use Rattle.nova_nodes.proofs.Slots.{pairs_more}
use Rattle.nova_nodes.proofs.Unlinking.{all_three, node_same, three}

-- what joins: it has the greatest id and no child, and its parent is there
pub record IsLast (list : List Derivation) (x : Derivation) : Type 0 where
  pub above : AllByRecursion (λ a. a.id < x.id) list
  pub childless : IsChildless list x.id
  pub parent : IfSome x.parent (λ p. IsSome (with_id list p))

above_at : (list : List Derivation) (x d : Derivation) → IsLast list x → IsIn list d → d.id < x.id
above_at list x d last i = all_at (λ a. a.id < x.id) list d last.above i

-- it is no parent of itself
not_itself : (list : List Derivation) (x : Derivation) → IsLast list x → is_child_of x.id x ≡ false
not_itself list x last = by_parent x.parent last.parent
  where
    by_found : (p : ℕ) (o : Option Derivation) → with_id list p ≡ o → IsSome o → (p == x.id) ≡ false
    by_found p None is there = absurd (cc)
    by_found p (Some d) is there =
        let k = found_in (λ (a : Derivation). a.id == p) list d is in
        let low = above_at list x d last k.0 in
        let id = k.1 in
        grind (arith, low, id)

    by_parent : (o : Option ℕ) → IfSome o (λ p. IsSome (with_id list p)) → is_id x.id o ≡ false
    by_parent None h = refl
    by_parent (Some p) h = by_found p (with_id list p) refl h

-- THE NODES THAT WERE THERE

or_else_twice : (o : Option ℕ) (id : ℕ) → or_else (or_else o id) id ≡ or_else o id
or_else_twice None id = refl
or_else_twice (Some other) id = refl

newest_twice : (t : Bool) (id : ℕ) (o : Option ℕ) → (if t then Some id else (if t then Some id else o)) ≡ (if t then Some id else o)
newest_twice true id o = refl
newest_twice false id o = refl

younger_twice : (t : Bool) (id : ℕ) (o : Option ℕ) → (if t then or_else (if t then or_else o id else o) id else (if t then or_else o id else o)) ≡ (if t then or_else o id else o)
younger_twice true id o = or_else_twice o id
younger_twice false id o = refl

joined_twice : (x : Derivation) (n : Node) → joined x (joined x n) ≡ joined x n
joined_twice x n = node_same n.derivation _ _ _ _ _ _ (newest_twice (is_child_of n.derivation.id x) x.id n.newest) refl (younger_twice (is_child_in x.parent n.derivation) x.id n.younger)

-- a node that is neither the parent nor the newest child before stays
joined_off : (list : List Derivation) (x : Derivation) (first : Option ℕ) (n : Node) → IsFamily list n → IsIn list n.derivation → IsMostOf Below (is_child_in x.parent) list first →
    is_id n.derivation.id x.parent ≡ false → is_id n.derivation.id first ≡ false → joined x n ≡ n
joined_off list x first n f i most parent off =
    node_same n.derivation _ _ _ _ _ _ (rw parent refl) refl (by_child (is_child_in x.parent n.derivation) refl n.younger refl)
  where
    by_child : (t : Bool) → is_child_in x.parent n.derivation ≡ t → (o : Option ℕ) → n.younger ≡ o → (if t then or_else n.younger x.id else n.younger) ≡ n.younger
    by_child true h None is = let on = newest_at list n x.parent first f i most h is in absurd (cc)
    by_child true h (Some id) is = rw is refl
    by_child false h o is = refl

younger_off : (x : Derivation) (n : Node) → is_child_in x.parent n.derivation ≡ false → younger_test n.derivation.parent n.derivation.id x ≡ false
younger_off x n off = by_test (younger_test n.derivation.parent n.derivation.id x) refl
  where
    by_test : (t : Bool) → younger_test n.derivation.parent n.derivation.id x ≡ t → t ≡ false
    by_test false h = refl
    by_test true h =
        let one = (younger_facts n.derivation.parent n.derivation.id x h).0 in
        let on = child_passes x.parent n.derivation (record { parent = one.parent; first = one.second; second = one.first }) in
        absurd (cc)

older_off : (o : Option ℕ) (id : ℕ) (x : Derivation) → id ≤ x.id → older_test o id x ≡ false
older_off o id x low = by_test (older_test o id x) refl
  where
    by_test : (t : Bool) → older_test o id x ≡ t → t ≡ false
    by_test false h = refl
    by_test true h = let less = (older_facts o id x h).1 in absurd (omega arith)

family_joined : (list : List Derivation) (x : Derivation) (n : Node) → IsLast list x → IsFamily list n → IsIn list n.derivation → IsFamily (list ++ x ∷ []) (joined x n)
family_joined list x n last f i = record {
  newest = by_parent (is_child_of n.derivation.id x) refl;
  older = most_stays Below (older_test n.derivation.parent n.derivation.id) list x n.older f.older (older_off n.derivation.parent n.derivation.id x (let low = above_at list x n.derivation last i in omega arith));
  younger = by_child (is_child_in x.parent n.derivation) refl n.younger f.younger;
}
  where
    by_parent : (t : Bool) → is_child_of n.derivation.id x ≡ t → IsMostOf Below (is_child_of n.derivation.id) (list ++ x ∷ []) (if t then Some x.id else n.newest)
    by_parent true h = most_joins Below (is_child_of n.derivation.id) list x h (omega arith) (λ d j g. let low = above_at list x d last j in omega arith)
    by_parent false h = most_stays Below (is_child_of n.derivation.id) list x n.newest f.newest h

    on : is_child_in x.parent n.derivation ≡ true → younger_test n.derivation.parent n.derivation.id x ≡ true
    on h = let one = child_facts x.parent n.derivation h in
        younger_passes n.derivation.parent n.derivation.id x (record { parent = one.parent; first = one.second; second = one.first }) (above_at list x n.derivation last i)

    by_child : (t : Bool) → is_child_in x.parent n.derivation ≡ t → (o : Option ℕ) → IsMostOf Above (younger_test n.derivation.parent n.derivation.id) list o →
        IsMostOf Above (younger_test n.derivation.parent n.derivation.id) (list ++ x ∷ []) (if t then or_else o x.id else o)
    by_child true h None none = most_joins Above (younger_test n.derivation.parent n.derivation.id) list x (on h) (omega arith) (λ d j g. let off = none d j in absurd (cc))
    by_child true h (Some id) m = most_later Above (younger_test n.derivation.parent n.derivation.id) list x id m (let low = above_at list x m.of last m.there in let is = m.its_id in omega arith)
    by_child false h o m = most_stays Above (younger_test n.derivation.parent n.derivation.id) list x o m (younger_off x n h)

-- THE NEW NODE

abbrev pub new_node : Derivation → Option ℕ → Node
new_node x first = record { derivation = x; newest = None; older = first; younger = None }

none_joins : (p : Derivation → Bool) (list : List Derivation) (x : Derivation) → ((d : Derivation) → IsIn list d → p d ≡ false) → p x ≡ false → (d : Derivation) → IsIn (list ++ x ∷ []) d → p d ≡ false
none_joins p list x none off d i = by_side (in_either list (x ∷ []) d i)
  where
    by_side : IsIn list d ⊎ IsIn (x ∷ []) d → p d ≡ false
    by_side (inl j) = none d j
    by_side (inr (inl e)) = ap p (sym e) ∙ off
    by_side (inr (inr j)) = absurd j

older_same : (o : Option ℕ) (x d : Derivation) → d.id < x.id → older_test o x.id d ≡ is_child_in o d
older_same None x d low = refl
older_same (Some parent) x d low = by_child (is_child_of parent d) refl
  where
    by_child : (t : Bool) → is_child_of parent d ≡ t → older_test (Some parent) x.id d ≡ is_child_of parent d
    by_child t h = grind (arith, h, low)

younger_none : (o : Option ℕ) (id : ℕ) (d : Derivation) → d.id ≤ id → younger_test o id d ≡ false
younger_none o id d low = by_test (younger_test o id d) refl
  where
    by_test : (t : Bool) → younger_test o id d ≡ t → t ≡ false
    by_test false h = refl
    by_test true h = let less = (younger_facts o id d h).1 in absurd (omega arith)

family_new : (list : List Derivation) (x : Derivation) (first : Option ℕ) → IsLast list x → IsMostOf Below (is_child_in x.parent) list first → IsFamily (list ++ x ∷ []) (new_node x first)
family_new list x first last most = record {
  newest = none_joins (is_child_of x.id) list x (λ d i. all_at (λ a. is_child_of x.id a ≡ false) list d last.childless i) (not_itself list x last);
  older = most_stays Below (older_test x.parent x.id) list x first
      (most_same Below (is_child_in x.parent) (older_test x.parent x.id) list first (λ d i. older_same x.parent x d (above_at list x d last i)) most)
      (older_off x.parent x.id x (omega arith));
  younger = none_joins (younger_test x.parent x.id) list x (λ d i. younger_none x.parent x.id d (let low = above_at list x d last i in omega arith)) (younger_none x.parent x.id x (omega arith));
}

-- ONE MORE

-- the newest child before of the parent of a derivation that joins
pub first_facts : (list : List Derivation) (o first : Option ℕ) → (o ≡ None → first ≡ None) → ((p : ℕ) → o ≡ Some p → first ≡ option_map id_of (newest_child list p)) → IsMostOf Below (is_child_in o) list first
first_facts list None first none some = subst (IsMostOf Below (is_child_in None) list) (sym (none refl)) (λ d i. refl)
first_facts list (Some p) first none some = subst (IsMostOf Below (is_child_of p) list) (sym (some p refl)) (newest_facts (is_child_of p) list)

derivations_joined : (x : Derivation) (node : Node) (ns : List Node) → derivations (map (joined x) ns ++ node ∷ []) ≡ derivations ns ++ node.derivation ∷ []
derivations_joined x node [] = refl
derivations_joined x node (n ∷ ns) = ap (λ l. n.derivation ∷ l) (derivations_joined x node ns)

all_changed : (x : Derivation) (a b : Option ℕ) (ns : List Node) → ((n : Node) → IsIn ns n → changed_at (joined x) b (changed_at (joined x) a n) ≡ joined x n) →
    map (changed_at (joined x) b) (map (changed_at (joined x) a) ns) ≡ map (joined x) ns
all_changed x a b [] same = refl
all_changed x a b (n ∷ ns) same = rw (same n (inl refl)) (ap (λ l. joined x n ∷ l) (all_changed x a b ns (λ m i. same m (inr i))))

two : (x : Derivation) (a b : Option ℕ) (n : Node) → (is_id n.derivation.id a ≡ false → is_id n.derivation.id b ≡ false → joined x n ≡ n) → changed_at (joined x) b (changed_at (joined x) a n) ≡ joined x n
two x a b n off = let three_of : three (joined x) a b None n ≡ joined x n = all_three (joined x) a b None n (joined_twice x n) (λ h k l. off h k) in three_of

pub record AreJoined (nodes : List Node) (x : Derivation) (after : List Node) : Type 0 where
  pub linked : AreLinked after
  pub derivations : derivations after ≡ derivations nodes ++ x ∷ []

all_mapped : (P : Node → Type 0) (f : Node → Node) (ns : List Node) → ((n : Node) → IsIn ns n → P (f n)) → AllByRecursion P (map f ns)
all_mapped P f [] h = tt
all_mapped P f (n ∷ ns) h = (h n (inl refl), all_mapped P f ns (λ m i. h m (inr i)))

pub links_more : (nodes : List Node) (x : Derivation) (first : Option ℕ) → AreRising (derivations nodes) → AreLinked nodes → IsLast (derivations nodes) x → IsMostOf Below (is_child_in x.parent) (derivations nodes) first →
    AreJoined nodes x (map (changed_at (joined x) first) (map (changed_at (joined x) x.parent) nodes) ++ new_node x first ∷ [])
links_more nodes x first rising linked last most =
    subst (λ (ns : List Node). AreJoined nodes x (ns ++ new_node x first ∷ [])) (sym (all_changed x x.parent first nodes each))
    (record { linked = all; derivations = derivations_joined x (new_node x first) nodes })
  where
    each : (n : Node) → IsIn nodes n → changed_at (joined x) first (changed_at (joined x) x.parent n) ≡ joined x n
    each n i = two x x.parent first n (joined_off (derivations nodes) x first n (family_at nodes n linked i) (derivation_in nodes n i) most)

    rises : AreRising (derivations nodes ++ x ∷ [])
    rises = pairs_more (λ (a b : Derivation). a.id < b.id) (derivations nodes) x rising last.above

    all : AreLinked (map (joined x) nodes ++ new_node x first ∷ [])
    all = subst (λ (ds : List Derivation). AllByRecursion (λ n. n ≡ link ds n.derivation) (map (joined x) nodes ++ new_node x first ∷ [])) (sym (derivations_joined x (new_node x first) nodes))
        (all_more (λ n. n ≡ link (derivations nodes ++ x ∷ []) n.derivation) (map (joined x) nodes) (new_node x first)
        (all_mapped (λ n. n ≡ link (derivations nodes ++ x ∷ []) n.derivation) (joined x) nodes
        (λ n i. family_from (derivations nodes ++ x ∷ []) (joined x n) rises (family_joined (derivations nodes) x n last (family_at nodes n linked i) (derivation_in nodes n i))))
        (family_from (derivations nodes ++ x ∷ []) (new_node x first) rises (family_new (derivations nodes) x first last most)))
