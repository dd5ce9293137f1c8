-- Of derivations that pass a test, that which goes before all: of greatest id, or of least.
use Rattle.std.proofs.Common.{◌≡◌, ℕ, ◌<◌, ◌≤◌, List, [], ◌∷◌, ◌++◌, ap, sym, ◌∙◌, refl, inl, inr, arith, subst}
use Rattle.std.specs.Prelude.{Bool, true, false, ◌⊎◌, ◌==◌, not, nat_le, filter, if◌then◌else◌, Option, Some, None, option_map}
use Rattle.std.proofs.lemmas.Bool.{eqb-true}
use Rattle.nova_model.specs.Delegations.{id_of, least_by, greatest_by}
use Rattle.nova_model.specs.Forest.{ArePairs}
use Rattle.nova_model.specs.declared.delegation.Derivation.{Derivation}
use Rattle.law_forest.proofs.Extremes.{before_facts, greatest, least, none_before, none_kept, none_passes}
use Rattle.law_forest.proofs.Members.{IsIn, all_at, all_from, filtered_in, in_filtered}
use Rattle.nova_nodes.specs.Links.{past}
use Rattle.nova_nodes.proofs.Found.{greatest_only, least_only, same_id}
use Rattle.nova_nodes.proofs.Indexed.{in_either, in_left, last_in}

-- a derivation that passes, and stands so to all that do
pub record IsMost (le : ℕ → ℕ → Type 0) (p : Derivation → Bool) (list : List Derivation) (id : ℕ) : Type 0 where
  pub of : Derivation
  pub there : IsIn list of
  pub its_id : of.id ≡ id
  pub passes : p of ≡ true
  pub most : (d : Derivation) → IsIn list d → p d ≡ true → le d.id id

abbrev pub IsMostOf : (ℕ → ℕ → Type 0) → (Derivation → Bool) → List Derivation → Option ℕ → Type 0
IsMostOf le p list None = (d : Derivation) → IsIn list d → p d ≡ false
IsMostOf le p list (Some id) = IsMost le p list id

-- the two orders
abbrev pub Below : ℕ → ℕ → Type 0
Below a b = a ≤ b

abbrev pub Above : ℕ → ℕ → Type 0
Above a b = b ≤ a

abbrev pub AreRising : List Derivation → Type 0
AreRising list = ArePairs (λ a b. a.id < b.id) list

-- THE SAME AS A SEARCH

pub newest_from : (p : Derivation → Bool) (list : List Derivation) (o : Option ℕ) → AreRising list → IsMostOf Below p list o → o ≡ option_map id_of (greatest_by id_of (filter p list))
newest_from p list None rising most = rw (none_kept p list most) refl
newest_from p list (Some id) rising m =
    let found = greatest_only (filter p list) m.of (in_filtered p list m.of m.there m.passes)
    (λ d i. let k = filtered_in p list d i in let low = m.most d k.0 k.1 in let is = m.its_id in omega arith)
    (λ d i e. same_id list d m.of rising (filtered_in p list d i).0 m.there e) in
    rw found (ap (λ n. Some n) (sym m.its_id))

pub oldest_from : (p : Derivation → Bool) (list : List Derivation) (o : Option ℕ) → AreRising list → IsMostOf Above p list o → o ≡ option_map id_of (least_by id_of (filter p list))
oldest_from p list None rising most = rw (none_kept p list most) refl
oldest_from p list (Some id) rising m =
    let found = least_only id_of (filter p list) m.of (in_filtered p list m.of m.there m.passes)
    (λ d i. let k = filtered_in p list d i in let low = m.most d k.0 k.1 in let is = m.its_id in omega arith)
    (λ d i e. same_id list d m.of rising (filtered_in p list d i).0 m.there e) in
    rw found (ap (λ n. Some n) (sym m.its_id))

pub newest_facts : (p : Derivation → Bool) (list : List Derivation) → IsMostOf Below p list (option_map id_of (greatest_by id_of (filter p list)))
newest_facts p list = by_found (greatest_by id_of (filter p list)) refl
  where
    by_found : (o : Option Derivation) → greatest_by id_of (filter p list) ≡ o → IsMostOf Below p list (option_map id_of o)
    by_found None is = none_passes p list (none_before (λ a b. nat_le b.id a.id) (greatest id_of) (filter p list) is)
    by_found (Some d) is =
        let b = before_facts (λ a b. nat_le b.id a.id) (filter p list) d is in
        let k = filtered_in p list d b.there in
        record { of = d; there = k.0; its_id = refl; passes = k.1; most = λ a i h. let low = b.before a (in_filtered p list a i h) in grind (arith, low) }

pub oldest_facts : (p : Derivation → Bool) (list : List Derivation) → IsMostOf Above p list (option_map id_of (least_by id_of (filter p list)))
oldest_facts p list = by_found (least_by id_of (filter p list)) refl
  where
    by_found : (o : Option Derivation) → least_by id_of (filter p list) ≡ o → IsMostOf Above p list (option_map id_of o)
    by_found None is = none_passes p list (none_before (λ a b. nat_le a.id b.id) (least id_of) (filter p list) is)
    by_found (Some d) is =
        let b = before_facts (λ a b. nat_le a.id b.id) (filter p list) d is in
        let k = filtered_in p list d b.there in
        record { of = d; there = k.0; its_id = refl; passes = k.1; most = λ a i h. let low = b.before a (in_filtered p list a i h) in grind (arith, low) }

-- ONE MORE

-- it does not pass
pub most_stays : (le : ℕ → ℕ → Type 0) (p : Derivation → Bool) (list : List Derivation) (x : Derivation) (o : Option ℕ) → IsMostOf le p list o → p x ≡ false → IsMostOf le p (list ++ x ∷ []) o
most_stays le p list x None none off = λ d i. by_side d (in_either list (x ∷ []) d i)
  where
    by_side : (d : Derivation) → IsIn list d ⊎ IsIn (x ∷ []) d → p d ≡ false
    by_side d (inl i) = none d i
    by_side d (inr (inl e)) = ap p (sym e) ∙ off
    by_side d (inr (inr i)) = absurd i
most_stays le p list x (Some id) m off = record {
  of = m.of;
  there = in_left list (x ∷ []) m.of m.there;
  its_id = m.its_id;
  passes = m.passes;
  most = λ d i h. by_side d h (in_either list (x ∷ []) d i);
}
  where
    by_side : (d : Derivation) → p d ≡ true → IsIn list d ⊎ IsIn (x ∷ []) d → le d.id id
    by_side d h (inl i) = m.most d i h
    by_side d h (inr (inl e)) = let k : p x ≡ true = ap p e ∙ h in absurd (cc)
    by_side d h (inr (inr i)) = absurd i

-- it passes, and what was most before stays the most
pub most_later : (le : ℕ → ℕ → Type 0) (p : Derivation → Bool) (list : List Derivation) (x : Derivation) (id : ℕ) → IsMost le p list id → le x.id id → IsMost le p (list ++ x ∷ []) id
most_later le p list x id m low = record {
  of = m.of;
  there = in_left list (x ∷ []) m.of m.there;
  its_id = m.its_id;
  passes = m.passes;
  most = λ d i h. by_side d h (in_either list (x ∷ []) d i);
}
  where
    by_side : (d : Derivation) → p d ≡ true → IsIn list d ⊎ IsIn (x ∷ []) d → le d.id id
    by_side d h (inl i) = m.most d i h
    by_side d h (inr (inl e)) = subst (λ (a : Derivation). le a.id id) e low
    by_side d h (inr (inr i)) = absurd i

-- it passes, and is the most
pub most_joins : (le : ℕ → ℕ → Type 0) (p : Derivation → Bool) (list : List Derivation) (x : Derivation) → p x ≡ true → le x.id x.id → ((d : Derivation) → IsIn list d → p d ≡ true → le d.id x.id) →
    IsMost le p (list ++ x ∷ []) x.id
most_joins le p list x on itself above = record {
  of = x;
  there = last_in list x;
  its_id = refl;
  passes = on;
  most = λ d i h. by_side d h (in_either list (x ∷ []) d i);
}
  where
    by_side : (d : Derivation) → p d ≡ true → IsIn list d ⊎ IsIn (x ∷ []) d → le d.id x.id
    by_side d h (inl i) = above d i h
    by_side d h (inr (inl e)) = subst (λ (a : Derivation). le a.id x.id) e itself
    by_side d h (inr (inr i)) = absurd i

-- the same of a test that agrees
pub most_same : (le : ℕ → ℕ → Type 0) (p q : Derivation → Bool) (list : List Derivation) (o : Option ℕ) → ((d : Derivation) → IsIn list d → q d ≡ p d) → IsMostOf le p list o → IsMostOf le q list o
most_same le p q list None same none = λ d i. same d i ∙ none d i
most_same le p q list (Some id) same m = record {
  of = m.of;
  there = m.there;
  its_id = m.its_id;
  passes = same m.of m.there ∙ m.passes;
  most = λ d i h. m.most d i (sym (same d i) ∙ h);
}

-- ONE LESS

abbrev pub others : ℕ → List Derivation → List Derivation
others id list = filter (λ (d : Derivation). not (d.id == id)) list

other_id : (id : ℕ) (d : Derivation) → not (d.id == id) ≡ true → d.id ≡ id → ⊥
other_id id d h e = absurd (grind (arith, h, e))

rising_filter : (test : Derivation → Bool) (list : List Derivation) → AreRising list → AreRising (filter test list)
rising_filter test [] rising = tt
rising_filter test (d ∷ list) rising = by_test (test d) (rising_filter test list rising.1)
  where
    by_test : (t : Bool) → AreRising (filter test list) → AreRising (if t then d ∷ filter test list else filter test list)
    by_test true rest = (all_from (λ a. d.id < a.id) (filter test list) (λ a i. all_at (λ b. d.id < b.id) list a rising.0 (filtered_in test list a i).0), rest)
    by_test false rest = rest

pub rising_others : (id : ℕ) (list : List Derivation) → AreRising list → AreRising (others id list)
rising_others id list rising = rising_filter (λ (d : Derivation). not (d.id == id)) list rising

is_other : (id : ℕ) (list : List Derivation) (d : Derivation) → IsIn list d → (d.id ≡ id → ⊥) → IsIn (others id list) d
is_other id list d i off = in_filtered (λ (a : Derivation). not (a.id == id)) list d i (by_test (d.id == id) refl)
  where
    by_test : (t : Bool) → (d.id == id) ≡ t → not t ≡ true
    by_test true h = absurd (off (eqb-true d.id id h))
    by_test false h = refl

-- what a derivation is to the one that goes: it is next to it
pub record IsNext (le : ℕ → ℕ → Type 0) (p q : Derivation → Bool) (list : List Derivation) (gone : ℕ) : Type 0 where
  pub within : (d : Derivation) → IsIn list d → q d ≡ true → p d ≡ true
  pub apart : (d : Derivation) → IsIn list d → q d ≡ true → d.id ≡ gone → ⊥
  pub behind : (d : Derivation) → IsIn list d → p d ≡ true → le d.id gone → (d.id ≡ gone → ⊥) → q d ≡ true

pub most_passes : (le : ℕ → ℕ → Type 0) (p q : Derivation → Bool) (list : List Derivation) (gone : ℕ) (o next : Option ℕ) → (o ≡ Some gone → IsNext le p q list gone) → IsMostOf le p list o → IsMostOf le q list next →
    IsMostOf le p (others gone list) (past gone next o)
most_passes le p q list gone None next n none second = λ d i. none d (filtered_in (λ (a : Derivation). not (a.id == gone)) list d i).0
most_passes le p q list gone (Some id) next n m second = by_test (id == gone) refl
  where
    from_next : IsNext le p q list gone → (o : Option ℕ) → id ≡ gone → IsMostOf le q list o → IsMostOf le p (others gone list) o
    from_next n None is none = λ d i.
        let k = filtered_in (λ (a : Derivation). not (a.id == gone)) list d i in
        by_pass d k.0 k.1 (p d) refl
      where
        by_pass : (d : Derivation) → IsIn list d → not (d.id == gone) ≡ true → (t : Bool) → p d ≡ t → t ≡ false
        by_pass d i off false h = refl
        by_pass d i off true h =
            let on = n.behind d i h (subst (le d.id) is (m.most d i h)) (other_id gone d off) in
            let none_of = none d i in
            absurd (cc)
    from_next n (Some j) is s = record {
      of = s.of;
      there = is_other gone list s.of s.there (n.apart s.of s.there s.passes);
      its_id = s.its_id;
      passes = n.within s.of s.there s.passes;
      most = λ d i h.
          let k = filtered_in (λ (a : Derivation). not (a.id == gone)) list d i in
          s.most d k.0 (n.behind d k.0 h (subst (le d.id) is (m.most d k.0 h)) (other_id gone d k.1));
    }

    by_test : (t : Bool) → (id == gone) ≡ t → IsMostOf le p (others gone list) (if t then next else Some id)
    by_test true h = let is = eqb-true id gone h in from_next (n (ap (λ m. Some m) is)) next is second
    by_test false h = record {
      of = m.of;
      there = is_other gone list m.of m.there (λ e. let is = m.its_id in absurd (grind (arith, h, e, is)));
      its_id = m.its_id;
      passes = m.passes;
      most = λ d i g. m.most d (filtered_in (λ (a : Derivation). not (a.id == gone)) list d i).0 g;
    }
