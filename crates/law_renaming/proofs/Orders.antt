-- The pairs that one pass keeps are those that are forced, each once, in the order in which they are first met.
use Rattle.std.proofs.Common.{◌≡◌, ℕ, suc, List, [], ◌∷◌, ◌++◌, ap, ap₂, sym, ◌∙◌, subst, refl}
use Rattle.std.specs.Prelude.{Bool, true, false, ◌==◌, ◌||◌, Option, Some, None, if◌then◌else◌}
use Rattle.std.proofs.lemmas.Bool.{and_parts, eqb-true}
use Rattle.std.proofs.lemmas.Option.{same_Some}
use Rattle.std.proofs.lemmas.List.{append_assoc}
use Rattle.std.proofs.lemmas.List.Folds.{list_any-append}
use Rattle.nova_guest.specs.declared.guest.Guest.{Guest}
use Rattle.nova_guest.specs.declared.input.Input.{Input}
use Rattle.law_renaming.specs.Forced.{alike, alike_input, among, forced, input_pairs, inputs_pairs, is_pair, maps_pairs, new_pairs, once}
use Rattle.law_renaming.specs.Verdicts.{Verdict, Equal, Views, Differ}
use Rattle.law_renaming.specs.Walks.{can_join, counted, joined, started, stepped, walk, walked}
use Rattle.law_renaming.proofs.Comparing.{new_among}

abbrev Pairs : Type 0
Pairs = List (ℕ × ℕ)

-- two lists have the same pairs
abbrev SamePairs : Pairs → Pairs → Type 0
SamePairs ps qs = (a b : ℕ) → among ps a b ≡ among qs a b

append_none : (ps : Pairs) → ps ++ [] ≡ ps
append_none [] = refl
append_none (p ∷ ps) = ap (λ (qs : Pairs). p ∷ qs) (append_none ps)

new_same : (acc other qs : Pairs) → SamePairs acc other → new_pairs acc qs ≡ new_pairs other qs
new_same acc other [] same = refl
new_same acc other (q ∷ qs) same =
    ap (λ (t : Bool). if t then new_pairs acc qs else q ∷ new_pairs (q ∷ acc) qs) (same q.0 q.1)
    ∙ ap₂ (λ (xs ys : Pairs). if among other q.0 q.1 then xs else q ∷ ys) (new_same acc other qs same)
    (new_same (q ∷ acc) (q ∷ other) qs (λ a b. ap (λ (t : Bool). is_pair a b q || t) (same a b)))

-- TESTS
or_past : (x m n : Bool) → (x ≡ true → m ≡ true) → (m || (x || n)) ≡ (m || n)
or_past x true n h = refl
or_past false false n h = refl
or_past true false n h = absurd (let f = h refl in cc)

or_shifted : (x m n : Bool) → (m || (x || n)) ≡ ((x || m) || n)
or_shifted true true n = refl
or_shifted true false n = refl
or_shifted false m n = refl

or_end : (x m : Bool) → (x || m) ≡ (m || (x || false))
or_end true true = refl
or_end true false = refl
or_end false true = refl
or_end false false = refl

or_turned : (x m : Bool) → (x || m) ≡ (m || x)
or_turned true true = refl
or_turned true false = refl
or_turned false true = refl
or_turned false false = refl

this_met : (acc : Pairs) (p : ℕ × ℕ) (a b : ℕ) → among acc p.0 p.1 ≡ true → is_pair a b p ≡ true → among acc a b ≡ true
this_met acc p a b is this =
    let both = and_parts (p.0 == a) (p.1 == b) this in
    subst (λ (y : ℕ). among acc a y ≡ true) (eqb-true p.1 b both.1) (subst (λ (x : ℕ). among acc x p.1 ≡ true) (eqb-true p.0 a both.0) is)

-- NEW PAIRS of two lists, one after the other
new_append : (acc ps qs other : Pairs) → ((a b : ℕ) → among other a b ≡ (among acc a b || among ps a b)) → new_pairs acc (ps ++ qs) ≡ new_pairs acc ps ++ new_pairs other qs
new_append acc [] qs other same = sym (new_same other acc qs (λ a b. same a b ∙ none (among acc a b)))
  where
    none : (t : Bool) → (t || false) ≡ t
    none true = refl
    none false = refl
new_append acc (p ∷ ps) qs other same = by_met (among acc p.0 p.1) refl (new_append acc ps qs other) (new_append (p ∷ acc) ps qs other)
  where
    by_met : (t : Bool) → among acc p.0 p.1 ≡ t →
        (((a b : ℕ) → among other a b ≡ (among acc a b || among ps a b)) → new_pairs acc (ps ++ qs) ≡ new_pairs acc ps ++ new_pairs other qs) →
        (((a b : ℕ) → among other a b ≡ (among (p ∷ acc) a b || among ps a b)) → new_pairs (p ∷ acc) (ps ++ qs) ≡ new_pairs (p ∷ acc) ps ++ new_pairs other qs) →
        (if t then new_pairs acc (ps ++ qs) else p ∷ new_pairs (p ∷ acc) (ps ++ qs)) ≡ (if t then new_pairs acc ps else p ∷ new_pairs (p ∷ acc) ps) ++ new_pairs other qs
    by_met true is rest more = rest (λ a b. same a b ∙ or_past (is_pair a b p) (among acc a b) (among ps a b) (this_met acc p a b is))
    by_met false is rest more = ap (λ (xs : Pairs). p ∷ xs) (more (λ a b. same a b ∙ or_shifted (is_pair a b p) (among acc a b) (among ps a b)))

-- JOINING adds the new ones
joined_new : (u v : Guest) (met acc ps all : Pairs) → SamePairs acc met → joined u v met ps ≡ Some all → all ≡ met ++ new_pairs acc ps
joined_new u v met acc [] all same some = sym (same_Some met all some) ∙ sym (append_none met)
joined_new u v met acc (p ∷ ps) all same some =
    subst (λ (t : Bool). all ≡ met ++ (if t then new_pairs acc ps else p ∷ new_pairs (p ∷ acc) ps)) (sym (same p.0 p.1))
    (by_met (among met p.0 p.1) (can_join u v met p) some (joined_new u v met acc ps all same) (joined_new u v (met ++ (p ∷ [])) (p ∷ acc) ps all more))
  where
    more : SamePairs (p ∷ acc) (met ++ (p ∷ []))
    more a b = ap (λ (t : Bool). is_pair a b p || t) (same a b) ∙ (or_end (is_pair a b p) (among met a b) ∙ sym (list_any-append (is_pair a b) met (p ∷ [])))

    by_met : (t c : Bool) → (if t then joined u v met ps else (if c then joined u v (met ++ (p ∷ [])) ps else None)) ≡ Some all →
        (joined u v met ps ≡ Some all → all ≡ met ++ new_pairs acc ps) → (joined u v (met ++ (p ∷ [])) ps ≡ Some all → all ≡ (met ++ (p ∷ [])) ++ new_pairs (p ∷ acc) ps) →
        all ≡ met ++ (if t then new_pairs acc ps else p ∷ new_pairs (p ∷ acc) ps)
    by_met true c is rest next = rest is
    by_met false true is rest next = next is ∙ append_assoc met (p ∷ []) (new_pairs (p ∷ acc) ps)
    by_met false false is rest next = absurd (cc)

-- all that is kept is what was met and what is new
all_kept : (met ps all : Pairs) → all ≡ met ++ new_pairs met ps → (a b : ℕ) → among all a b ≡ (among met a b || among ps a b)
all_kept met ps all is a b =
    ap (λ (xs : Pairs). among xs a b) is ∙ (list_any-append (is_pair a b) met (new_pairs met ps)
    ∙ (or_turned (among met a b) (among (new_pairs met ps) a b) ∙ (new_among met ps a b ∙ or_turned (among ps a b) (among met a b))))

same_pairs : (n m : ℕ) (ps qs : Pairs) → Equal n ps ≡ Equal m qs → ps ≡ qs
same_pairs n m ps qs is = ap pairs_of is
  where
    pairs_of : Verdict → Pairs
    pairs_of (Equal k xs) = xs
    pairs_of Views = []
    pairs_of (Differ k) = []

walked_pairs : (u v : Guest) (met : Pairs) (is js : List Input) (n m : ℕ) (pairs : Pairs) → walked u v (Some met) n is js ≡ Equal m pairs → pairs ≡ met ++ new_pairs met (inputs_pairs is js)
walked_pairs u v met [] [] n m pairs is = sym (same_pairs n m met pairs is) ∙ sym (append_none met)
walked_pairs u v met [] (j ∷ js) n m pairs is = absurd (cc)
walked_pairs u v met (i ∷ is) [] n m pairs same = absurd (cc)
walked_pairs u v met (i ∷ is) (j ∷ js) n m pairs same = by_step (stepped u v met i j) refl same (λ all. walked_pairs u v all is js (suc n) m pairs)
  where
    by_alike : (t : Bool) (all : Pairs) → (if t then joined u v met (input_pairs i j) else None) ≡ Some all → all ≡ met ++ new_pairs met (input_pairs i j)
    by_alike true all some = joined_new u v met met (input_pairs i j) all (λ a b. refl) some
    by_alike false all some = absurd (cc)

    by_step : (o : Option Pairs) → stepped u v met i j ≡ o → walked u v o (counted n o) is js ≡ Equal m pairs →
        ((all : Pairs) → walked u v (Some all) (suc n) is js ≡ Equal m pairs → pairs ≡ all ++ new_pairs all (inputs_pairs is js)) → pairs ≡ met ++ new_pairs met (input_pairs i j ++ inputs_pairs is js)
    by_step None none same_ rest = absurd (cc)
    by_step (Some all) some same_ rest =
        let kept : all ≡ met ++ new_pairs met (input_pairs i j) = by_alike (alike_input i j) all some in
        rest all same_
        ∙ (ap (λ (xs : Pairs). xs ++ new_pairs all (inputs_pairs is js)) kept
        ∙ (append_assoc met (new_pairs met (input_pairs i j)) (new_pairs all (inputs_pairs is js))
        ∙ ap (λ (xs : Pairs). met ++ xs) (sym (new_append met (input_pairs i j) (inputs_pairs is js) all (all_kept met (input_pairs i j) all kept)))))

pub walk_pairs : (u v : Guest) (is js : List Input) (n : ℕ) (pairs : Pairs) → walk u v is js ≡ Equal n pairs → pairs ≡ once (forced u v is js)
walk_pairs u v is js n pairs same = by_alike (alike u v) same
  where
    by_joined : (o : Option Pairs) → joined u v [] (maps_pairs u.maps v.maps) ≡ o → started u v o is js ≡ Equal n pairs → pairs ≡ once (forced u v is js)
    by_joined None none is_ = absurd (cc)
    by_joined (Some met) some is_ =
        let kept : met ≡ new_pairs [] (maps_pairs u.maps v.maps) = joined_new u v [] [] (maps_pairs u.maps v.maps) met (λ a b. refl) some in
        walked_pairs u v met is js 0 n pairs is_
        ∙ (ap (λ (xs : Pairs). xs ++ new_pairs met (inputs_pairs is js)) kept
        ∙ sym (new_append [] (maps_pairs u.maps v.maps) (inputs_pairs is js) met (all_kept [] (maps_pairs u.maps v.maps) met kept)))

    by_alike : (t : Bool) → (if t then started u v (joined u v [] (maps_pairs u.maps v.maps)) is js else Views) ≡ Equal n pairs → pairs ≡ once (forced u v is js)
    by_alike true is_ = by_joined (joined u v [] (maps_pairs u.maps v.maps)) refl is_
    by_alike false is_ = absurd (cc)
