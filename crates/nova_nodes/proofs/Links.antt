-- Links are what the list says where a derivation joins, and where one goes.
use Rattle.std.proofs.Common.{◌≡◌, ℕ, ◌<◌, ◌≤◌, List, [], ◌∷◌, ap, sym, ◌∙◌, refl, inl, inr, arith, subst}
use Rattle.std.specs.Prelude.{Bool, true, false, nat_lt, Option, Some, None, option_map}
use Rattle.std.proofs.lemmas.Bool.{and_parts, eqb-true}
use Rattle.nova_model.specs.Delegations.{id_of, is_child_of, is_id, is_older_child, newest_child, older_child}
use Rattle.nova_model.specs.declared.delegation.Derivation.{Derivation}
use Rattle.law_forest.proofs.Members.{IsIn, all_at}
use Rattle.nova_nodes.specs.declared.node.Node.{Node}
use Rattle.nova_nodes.specs.Links.{AreLinked, derivations, derivation_of, is_child_in, is_younger_child, link, younger_child}
use Rattle.nova_nodes.proofs.Found.{same_id}
use Rattle.nova_nodes.proofs.Most.{Above, AreRising, Below, IsMost, IsMostOf, newest_facts, newest_from, oldest_facts, oldest_from}

-- TESTS OF LINKS

abbrev pub older_test : Option ℕ → ℕ → Derivation → Bool
older_test None id d = false
older_test (Some parent) id d = is_older_child parent id d

abbrev pub younger_test : Option ℕ → ℕ → Derivation → Bool
younger_test None id d = false
younger_test (Some parent) id d = is_younger_child parent id d

-- both are children of one parent
pub record AreOfOne (a b : Option ℕ) : Type 0 where
  pub parent : ℕ
  pub first : a ≡ Some parent
  pub second : b ≡ Some parent

child_is : (parent : ℕ) (o : Option ℕ) → is_id parent o ≡ true → o ≡ Some parent
child_is parent None h = absurd (cc)
child_is parent (Some id) h = ap (λ n. Some n) (eqb-true id parent h)

is_itself : (id : ℕ) → is_id id (Some id) ≡ true
is_itself id = grind arith

pub older_facts : (o : Option ℕ) (id : ℕ) (d : Derivation) → older_test o id d ≡ true → AreOfOne o d.parent × (d.id < id)
older_facts None id d h = absurd (cc)
older_facts (Some parent) id d h =
    let a = and_parts (is_child_of parent d) (nat_lt d.id id) h in
    let low = a.1 in
    (record { parent = parent; first = refl; second = child_is parent d.parent a.0 }, grind (arith, low))

pub younger_facts : (o : Option ℕ) (id : ℕ) (d : Derivation) → younger_test o id d ≡ true → AreOfOne o d.parent × (id < d.id)
younger_facts None id d h = absurd (cc)
younger_facts (Some parent) id d h =
    let a = and_parts (is_child_of parent d) (nat_lt id d.id) h in
    let low = a.1 in
    (record { parent = parent; first = refl; second = child_is parent d.parent a.0 }, grind (arith, low))

pub child_facts : (o : Option ℕ) (d : Derivation) → is_child_in o d ≡ true → AreOfOne o d.parent
child_facts None d h = absurd (cc)
child_facts (Some parent) d h = record { parent = parent; first = refl; second = child_is parent d.parent h }

pub older_passes : (o : Option ℕ) (id : ℕ) (d : Derivation) → AreOfOne o d.parent → d.id < id → older_test o id d ≡ true
older_passes o id d one low =
    let child : is_child_of one.parent d ≡ true = ap (is_id one.parent) one.second ∙ is_itself one.parent in
    rw (one.first) (grind (arith, child, low))

pub younger_passes : (o : Option ℕ) (id : ℕ) (d : Derivation) → AreOfOne o d.parent → id < d.id → younger_test o id d ≡ true
younger_passes o id d one low =
    let child : is_child_of one.parent d ≡ true = ap (is_id one.parent) one.second ∙ is_itself one.parent in
    rw (one.first) (grind (arith, child, low))

pub child_passes : (o : Option ℕ) (d : Derivation) → AreOfOne o d.parent → is_child_in o d ≡ true
child_passes o d one = rw (one.first) (ap (is_id one.parent) one.second ∙ is_itself one.parent)

-- parents that are the same of three
pub of_one : {a b c : Option ℕ} (x : AreOfOne a b) (y : AreOfOne a c) → AreOfOne b c
of_one x y = record { parent = x.parent; first = x.second; second = let e : Some y.parent ≡ Some x.parent = sym y.first ∙ x.first in y.second ∙ e }

swapped : {a b : Option ℕ} → AreOfOne a b → AreOfOne b a
swapped x = record { parent = x.parent; first = x.second; second = x.first }

-- A NODE AMONG THE DERIVATIONS

pub record IsFamily (list : List Derivation) (n : Node) : Type 0 where
  pub newest : IsMostOf Below (is_child_of n.derivation.id) list n.newest
  pub older : IsMostOf Below (older_test n.derivation.parent n.derivation.id) list n.older
  pub younger : IsMostOf Above (younger_test n.derivation.parent n.derivation.id) list n.younger

older_is : (list : List Derivation) (d : Derivation) → IsMostOf Below (older_test d.parent d.id) list (option_map id_of (older_child list d))
older_is list d = by_parent d.parent refl
  where
    by_parent : (o : Option ℕ) → d.parent ≡ o → IsMostOf Below (older_test d.parent d.id) list (option_map id_of (older_child list d))
    by_parent None is = rw is (λ a i. refl)
    by_parent (Some parent) is = rw is (newest_facts (is_older_child parent d.id) list)

younger_is : (list : List Derivation) (d : Derivation) → IsMostOf Above (younger_test d.parent d.id) list (option_map id_of (younger_child list d))
younger_is list d = by_parent d.parent refl
  where
    by_parent : (o : Option ℕ) → d.parent ≡ o → IsMostOf Above (younger_test d.parent d.id) list (option_map id_of (younger_child list d))
    by_parent None is = rw is (λ a i. refl)
    by_parent (Some parent) is = rw is (oldest_facts (is_younger_child parent d.id) list)

family_of : (list : List Derivation) (d : Derivation) → IsFamily list (link list d)
family_of list d = record { newest = newest_facts (is_child_of d.id) list; older = older_is list d; younger = younger_is list d }

pub family_facts : (list : List Derivation) (n : Node) → n ≡ link list n.derivation → IsFamily list n
family_facts list n is = subst (IsFamily list) (sym is) (family_of list n.derivation)

no_most : (le : ℕ → ℕ → Type 0) (list : List Derivation) (o : Option ℕ) → IsMostOf le (λ d. false) list o → o ≡ None
no_most le list None m = refl
no_most le list (Some id) m = let h = m.passes in absurd (cc)

older_from : (list : List Derivation) (d : Derivation) (o : Option ℕ) → AreRising list → IsMostOf Below (older_test d.parent d.id) list o → o ≡ option_map id_of (older_child list d)
older_from list d o rising m = by_parent d.parent refl m
  where
    by_parent : (p : Option ℕ) → d.parent ≡ p → IsMostOf Below (older_test p d.id) list o → o ≡ option_map id_of (older_child list d)
    by_parent None is m = rw is (no_most Below list o m)
    by_parent (Some parent) is m = rw is (newest_from (is_older_child parent d.id) list o rising m)

younger_from : (list : List Derivation) (d : Derivation) (o : Option ℕ) → AreRising list → IsMostOf Above (younger_test d.parent d.id) list o → o ≡ option_map id_of (younger_child list d)
younger_from list d o rising m = by_parent d.parent refl m
  where
    by_parent : (p : Option ℕ) → d.parent ≡ p → IsMostOf Above (younger_test p d.id) list o → o ≡ option_map id_of (younger_child list d)
    by_parent None is m = rw is (no_most Above list o m)
    by_parent (Some parent) is m = rw is (oldest_from (is_younger_child parent d.id) list o rising m)

abbrev node_of : Derivation → Option ℕ → Option ℕ → Option ℕ → Node
node_of d newest older younger = record { derivation = d; newest = newest; older = older; younger = younger }

pub family_from : (list : List Derivation) (n : Node) → AreRising list → IsFamily list n → n ≡ link list n.derivation
family_from list n rising f =
    ap (λ o. node_of n.derivation o n.older n.younger) (newest_from (is_child_of n.derivation.id) list n.newest rising f.newest)
    ∙ ap (λ o. node_of n.derivation (option_map id_of (newest_child list n.derivation.id)) o n.younger) (older_from list n.derivation n.older rising f.older)
    ∙ ap (λ o. node_of n.derivation (option_map id_of (newest_child list n.derivation.id)) (option_map id_of (older_child list n.derivation)) o)
    (younger_from list n.derivation n.younger rising f.younger)

-- a node of nodes that are linked, and its derivation
pub derivation_in : (nodes : List Node) (n : Node) → IsIn nodes n → IsIn (derivations nodes) n.derivation
derivation_in [] n i = absurd i
derivation_in (m ∷ nodes) n (inl e) = inl (ap derivation_of e)
derivation_in (m ∷ nodes) n (inr i) = inr (derivation_in nodes n i)

pub family_at : (nodes : List Node) (n : Node) → AreLinked nodes → IsIn nodes n → IsFamily (derivations nodes) n
family_at nodes n linked i = family_facts (derivations nodes) n (all_at (λ m. m ≡ link (derivations nodes) m.derivation) nodes n linked i)

-- WHICH NODES LEAD TO A NODE

-- what is most of an id is the derivation of that id
pub most_at : (le : ℕ → ℕ → Type 0) (p : Derivation → Bool) (list : List Derivation) (d : Derivation) → AreRising list → IsIn list d → IsMost le p list d.id → p d ≡ true
most_at le p list d rising i m = let e = same_id list m.of d rising m.there i m.its_id in ap p (sym e) ∙ m.passes

-- a sibling with no younger one is its parent's newest child
pub newest_at : (list : List Derivation) (n : Node) (parent : Option ℕ) (first : Option ℕ) → IsFamily list n → IsIn list n.derivation → IsMostOf Below (is_child_in parent) list first →
    is_child_in parent n.derivation ≡ true → n.younger ≡ None → is_id n.derivation.id first ≡ true
newest_at list n parent None f i first child none = let off = first n.derivation i in absurd (cc)
newest_at list n parent (Some id) f i first child none =
    let low = first.most n.derivation i child in
    let is = first.its_id in
    let one = of_one (child_facts parent n.derivation child) (child_facts parent first.of first.passes) in
    let last = subst (IsMostOf Above (younger_test n.derivation.parent n.derivation.id) list) none f.younger in
    by_test (nat_lt n.derivation.id first.of.id) refl one low is (last first.of first.there)
  where
    by_test : (t : Bool) → nat_lt n.derivation.id first.of.id ≡ t → AreOfOne n.derivation.parent first.of.parent → n.derivation.id ≤ id → first.of.id ≡ id →
        younger_test n.derivation.parent n.derivation.id first.of ≡ false → is_id n.derivation.id (Some id) ≡ true
    by_test true h one low is off = let on = younger_passes n.derivation.parent n.derivation.id first.of one (grind (arith, h)) in absurd (cc)
    by_test false h one low is off = grind (arith, h, low, is)

-- a node that has another as its next older sibling is the next younger of that, and the other way round
pub younger_at : (list : List Derivation) (n y : Node) → AreRising list → IsFamily list n → IsFamily list y → IsIn list n.derivation → IsIn list y.derivation →
    IsMost Below (older_test n.derivation.parent n.derivation.id) list y.derivation.id → is_id n.derivation.id y.younger ≡ true
younger_at list n y rising fn fy i j m = by_link y.younger fy.younger
  where
    passes : AreOfOne n.derivation.parent y.derivation.parent × (y.derivation.id < n.derivation.id)
    passes = older_facts n.derivation.parent n.derivation.id y.derivation (most_at Below (older_test n.derivation.parent n.derivation.id) list y.derivation rising j m)

    on : younger_test y.derivation.parent y.derivation.id n.derivation ≡ true
    on = younger_passes y.derivation.parent y.derivation.id n.derivation (swapped passes.0) passes.1

    by_link : (o : Option ℕ) → IsMostOf Above (younger_test y.derivation.parent y.derivation.id) list o → is_id n.derivation.id o ≡ true
    by_link None none = let off = none n.derivation i in let k = on in absurd (cc)
    by_link (Some id) k =
        let low = k.most n.derivation i on in
        let is = k.its_id in
        let f = younger_facts y.derivation.parent y.derivation.id k.of k.passes in
        by_test (nat_lt k.of.id n.derivation.id) refl low is f.1 (of_one (swapped passes.0) f.0)
      where
        by_test : (t : Bool) → nat_lt k.of.id n.derivation.id ≡ t → id ≤ n.derivation.id → k.of.id ≡ id → y.derivation.id < k.of.id → AreOfOne n.derivation.parent k.of.parent → is_id n.derivation.id (Some id) ≡ true
        by_test true h low is above one =
            let below = m.most k.of k.there (older_passes n.derivation.parent n.derivation.id k.of one (grind (arith, h))) in
            absurd (omega arith)
        by_test false h low is above one = grind (arith, h, low, is)

pub older_at : (list : List Derivation) (n y : Node) → AreRising list → IsFamily list n → IsFamily list y → IsIn list n.derivation → IsIn list y.derivation →
    IsMost Above (younger_test n.derivation.parent n.derivation.id) list y.derivation.id → is_id n.derivation.id y.older ≡ true
older_at list n y rising fn fy i j m = by_link y.older fy.older
  where
    passes : AreOfOne n.derivation.parent y.derivation.parent × (n.derivation.id < y.derivation.id)
    passes = younger_facts n.derivation.parent n.derivation.id y.derivation (most_at Above (younger_test n.derivation.parent n.derivation.id) list y.derivation rising j m)

    on : older_test y.derivation.parent y.derivation.id n.derivation ≡ true
    on = older_passes y.derivation.parent y.derivation.id n.derivation (swapped passes.0) passes.1

    by_link : (o : Option ℕ) → IsMostOf Below (older_test y.derivation.parent y.derivation.id) list o → is_id n.derivation.id o ≡ true
    by_link None none = let off = none n.derivation i in let k = on in absurd (cc)
    by_link (Some id) k =
        let low = k.most n.derivation i on in
        let is = k.its_id in
        let f = older_facts y.derivation.parent y.derivation.id k.of k.passes in
        by_test (nat_lt n.derivation.id k.of.id) refl low is f.1 (of_one (swapped passes.0) f.0)
      where
        by_test : (t : Bool) → nat_lt n.derivation.id k.of.id ≡ t → n.derivation.id ≤ id → k.of.id ≡ id → k.of.id < y.derivation.id → AreOfOne n.derivation.parent k.of.parent → is_id n.derivation.id (Some id) ≡ true
        by_test true h low is below one =
            let above = m.most k.of k.there (younger_passes n.derivation.parent n.derivation.id k.of one (grind (arith, h))) in
            absurd (omega arith)
        by_test false h low is below one = grind (arith, h, low, is)

pub parent_at : (list : List Derivation) (n y : Node) → AreRising list → IsIn list y.derivation → IsMost Below (is_child_of n.derivation.id) list y.derivation.id → is_id n.derivation.id y.derivation.parent ≡ true
parent_at list n y rising j m = most_at Below (is_child_of n.derivation.id) list y.derivation rising j m
