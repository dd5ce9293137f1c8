-- One pass over the inputs finds a verdict that holds.
use Rattle.std.proofs.Common.{◌≡◌, ℕ, suc, List, [], ◌∷◌, ◌++◌, length, take, ap, sym, ◌∙◌, subst, subst₂, refl, inl, inr, arith}
use Rattle.std.specs.Prelude.{Bool, true, false, Option, Some, None, if◌then◌else◌}
use Rattle.std.proofs.lemmas.List.{append_assoc, length-append}
use Rattle.nova_guest.specs.declared.guest.Guest.{Guest}
use Rattle.nova_guest.specs.declared.input.Input.{Input}
use Rattle.law_renaming.specs.Forced.{alike, alike_input, among, input_pairs, maps_pairs}
use Rattle.law_renaming.specs.Renamings.{InputAgrees, InputsAgree, IsOneToOne, Renames}
use Rattle.law_renaming.specs.Verdicts.{AreDifferent, AreEqual, CantAgree, IsAgreement, IsVerdict, Views}
use Rattle.law_renaming.specs.Walks.{counted, joined, started, stepped, walk, walked}
use Rattle.law_renaming.proofs.Comparing.{alike_found, guests_made}
use Rattle.law_renaming.proofs.Forcing.{AreIn, input_alike, input_forced, input_made, inputs_alike, inputs_forced, inputs_made, maps_forced, none_in}
use Rattle.law_renaming.proofs.Joining.{IfJoined, Joins, joined_tells}

-- LISTS
append_none : (xs : List Input) → xs ++ [] ≡ xs
append_none [] = refl
append_none (x ∷ xs) = ap (λ (ys : List Input). x ∷ ys) (append_none xs)

take_first : (p is : List Input) → take (length p) (p ++ is) ≡ p
take_first [] is = refl
take_first (x ∷ p) is = ap (λ (ys : List Input). x ∷ ys) (take_first p is)

take_more : (p is : List Input) (i : Input) → take (suc (length p)) (p ++ (i ∷ is)) ≡ p ++ (i ∷ [])
take_more [] is i = refl
take_more (x ∷ p) is i = ap (λ (ys : List Input). x ∷ ys) (take_more p is i)

-- AGREEMENT OF INPUTS, with one more at the end
one_more : (r : ℕ → ℕ → Bool) (p q : List Input) (i j : Input) → InputsAgree r p q → InputAgrees r i j → InputsAgree r (p ++ (i ∷ [])) (q ++ (j ∷ []))
one_more r [] [] i j same last = (last, tt)
one_more r [] (y ∷ q) i j same last = absurd same
one_more r (x ∷ p) [] i j same last = absurd same
one_more r (x ∷ p) (y ∷ q) i j same last = (same.0, one_more r p q i j same.1 last)

pub record Parts (r : ℕ → ℕ → Bool) (p q : List Input) (i j : Input) : Type 0 where
  pub first : InputsAgree r p q
  pub last : InputAgrees r i j

parts : (r : ℕ → ℕ → Bool) (p q : List Input) (i j : Input) → length p ≡ length q → InputsAgree r (p ++ (i ∷ [])) (q ++ (j ∷ [])) → Parts r p q i j
parts r [] [] i j many same = record { first = tt; last = same.0 }
parts r [] (y ∷ q) i j many same = absurd (omega (arith, many))
parts r (x ∷ p) [] i j many same = absurd (omega (arith, many))
parts r (x ∷ p) (y ∷ q) i j many same =
    let rest = parts r p q i j (omega (arith, many)) same.1 in record { first = (same.0, rest.first); last = rest.last }

more_inputs : (s t : ℕ → ℕ → Bool) (is js : List Input) → ((a b : ℕ) → Renames s a b → Renames t a b) → InputsAgree s is js → InputsAgree t is js
more_inputs s t is js more same = inputs_made t is js (inputs_alike s is js same) (λ a b pair. more a b (inputs_forced s is js same a b pair))

-- WHAT HOLDS AFTER SOME INPUTS: the pairs that were met make the guests and these inputs agree, and whatever does has them
pub record Walked (u v : Guest) (p q : List Input) (met : List (ℕ × ℕ)) (n : ℕ) : Type 0 where
  pub alike : alike u v ≡ true
  pub agreement : IsAgreement (among met) u v p q
  pub least : (r : ℕ → ℕ → Bool) → IsAgreement r u v p q → AreIn r met
  pub first : n ≡ length p
  pub second : n ≡ length q

before_last : (r : ℕ → ℕ → Bool) (u v : Guest) (p q : List Input) (i j : Input) → length p ≡ length q → IsAgreement r u v (p ++ (i ∷ [])) (q ++ (j ∷ [])) → IsAgreement r u v p q
before_last r u v p q i j many same = record { one = same.one; guests = same.guests; inputs = (parts r p q i j many same.inputs).first }

goes_on : (u v : Guest) (p q : List Input) (met all : List (ℕ × ℕ)) (n : ℕ) (i j : Input) → Walked u v p q met n → alike_input i j ≡ true → Joins u v met (input_pairs i j) all →
    Walked u v (p ++ (i ∷ [])) (q ++ (j ∷ [])) all (suc n)
goes_on u v p q met all n i j was same joins = record {
  alike = was.alike;
  agreement = record {
    one = joins.one;
    guests = guests_made (among all) u v was.alike (λ a b pair. joins.old a b (maps_forced (among met) u.maps v.maps was.agreement.guests.maps a b pair)) joins.cells;
    inputs = one_more (among all) p q i j (more_inputs (among met) (among all) p q (λ a b pair. joins.old a b pair) was.agreement.inputs) (input_made (among all) i j same joins.new);
  };
  least = λ r agrees. joins.only r (was.least r (before_last r u v p q i j many agrees)) (input_forced r i j (parts r p q i j many agrees.inputs).last);
  first = longer p i was.first;
  second = longer q j was.second;
}
  where
    many : length p ≡ length q
    many = sym was.first ∙ was.second

    longer : (xs : List Input) (x : Input) → n ≡ length xs → suc n ≡ length (xs ++ (x ∷ []))
    longer xs x e = let l = length-append xs (x ∷ []) in omega (arith, e, l)

-- where it ends
ends_equal : (u v : Guest) (p q : List Input) (met : List (ℕ × ℕ)) (n : ℕ) → Walked u v p q met n → AreEqual u v (p ++ []) (q ++ []) n met
ends_equal u v p q met n was = subst₂ (λ (xs ys : List Input). AreEqual u v xs ys n met) (sym (append_none p)) (sym (append_none q))
    (record { agreement = was.agreement; least = λ r same a b pair. was.least r same a b pair; first = was.first; second = was.second })

first_agree : (u v : Guest) (p q is js : List Input) (met : List (ℕ × ℕ)) (n : ℕ) → Walked u v p q met n → IsAgreement (among met) u v (take n (p ++ is)) (take n (q ++ js))
first_agree u v p q is js met n was = subst₂ (IsAgreement (among met) u v)
    (sym (ap (λ (m : ℕ). take m (p ++ is)) was.first ∙ take_first p is)) (sym (ap (λ (m : ℕ). take m (q ++ js)) was.second ∙ take_first q js)) was.agreement

ends_first : (u v : Guest) (p q js : List Input) (j : Input) (met : List (ℕ × ℕ)) (n : ℕ) → Walked u v p q met n → AreDifferent u v (p ++ []) (q ++ (j ∷ js)) n
ends_first u v p q js j met n was = let l = length-append p [] in let m = length-append q (j ∷ js) in let e = was.first in let d = was.second in record {
  first = omega (arith, l, e);
  second = omega (arith, m, d);
  agree = (met, first_agree u v p q [] (j ∷ js) met n was);
  ends = λ under below. absurd (omega (arith, under, l, e));
  more = inr (omega (arith, m, d));
}

ends_second : (u v : Guest) (p q is : List Input) (i : Input) (met : List (ℕ × ℕ)) (n : ℕ) → Walked u v p q met n → AreDifferent u v (p ++ (i ∷ is)) (q ++ []) n
ends_second u v p q is i met n was = let l = length-append p (i ∷ is) in let m = length-append q [] in let e = was.first in let d = was.second in record {
  first = omega (arith, l, e);
  second = omega (arith, m, d);
  agree = (met, first_agree u v p q (i ∷ is) [] met n was);
  ends = λ under below. absurd (omega (arith, below, m, d));
  more = inl (omega (arith, l, e));
}

ends_here : (u v : Guest) (p q is js : List Input) (i j : Input) (met : List (ℕ × ℕ)) (n : ℕ) → Walked u v p q met n → CantAgree u v (p ++ (i ∷ [])) (q ++ (j ∷ [])) →
    AreDifferent u v (p ++ (i ∷ is)) (q ++ (j ∷ js)) n
ends_here u v p q is js i j met n was cant = let l = length-append p (i ∷ is) in let m = length-append q (j ∷ js) in let e = was.first in let d = was.second in record {
  first = omega (arith, l, e);
  second = omega (arith, m, d);
  agree = (met, first_agree u v p q (i ∷ is) (j ∷ js) met n was);
  ends = λ under below. subst₂ (CantAgree u v) (sym (ap (λ (x : ℕ). take (suc x) (p ++ (i ∷ is))) e ∙ take_more p is i)) (sym (ap (λ (x : ℕ). take (suc x) (q ++ (j ∷ js))) d ∙ take_more q js j)) cant;
  more = inl (omega (arith, l, e));
}

cant_step : (u v : Guest) (p q : List Input) (met : List (ℕ × ℕ)) (n : ℕ) (i j : Input) → Walked u v p q met n → stepped u v met i j ≡ None → CantAgree u v (p ++ (i ∷ [])) (q ++ (j ∷ []))
cant_step u v p q met n i j was none r same = by_alike (alike_input i j) refl none
  where
    many : length p ≡ length q
    many = sym was.first ∙ was.second

    last : InputAgrees r i j
    last = (parts r p q i j many same.inputs).last

    tells : (o : Option (List (ℕ × ℕ))) → o ≡ None → IfJoined u v met (input_pairs i j) o → ⊥
    tells None is t = t r same.one same.guests.cells (was.least r (before_last r u v p q i j many same)) (input_forced r i j last)
    tells (Some all) is t = absurd (cc)

    by_alike : (t : Bool) → alike_input i j ≡ t → (if t then joined u v met (input_pairs i j) else None) ≡ None → ⊥
    by_alike true is none_ = tells (joined u v met (input_pairs i j)) none_ (joined_tells u v met (input_pairs i j) was.agreement.one was.agreement.guests.cells)
    by_alike false is none_ = let found = input_alike r i j last in absurd (cc)

can_step : (u v : Guest) (p q : List Input) (met all : List (ℕ × ℕ)) (n : ℕ) (i j : Input) → Walked u v p q met n → stepped u v met i j ≡ Some all → Walked u v (p ++ (i ∷ [])) (q ++ (j ∷ [])) all (suc n)
can_step u v p q met all n i j was some = by_alike (alike_input i j) refl some
  where
    by_alike : (t : Bool) → alike_input i j ≡ t → (if t then joined u v met (input_pairs i j) else None) ≡ Some all → Walked u v (p ++ (i ∷ [])) (q ++ (j ∷ [])) all (suc n)
    by_alike true is some_ = goes_on u v p q met all n i j was is
        (subst (IfJoined u v met (input_pairs i j)) some_ (joined_tells u v met (input_pairs i j) was.agreement.one was.agreement.guests.cells))
    by_alike false is some_ = absurd (cc)

pub walked_holds : (u v : Guest) (p q is js : List Input) (met : List (ℕ × ℕ)) (n : ℕ) → Walked u v p q met n → IsVerdict u v (p ++ is) (q ++ js) (walked u v (Some met) n is js)
walked_holds u v p q [] [] met n was = ends_equal u v p q met n was
walked_holds u v p q [] (j ∷ js) met n was = ends_first u v p q js j met n was
walked_holds u v p q (i ∷ is) [] met n was = ends_second u v p q is i met n was
walked_holds u v p q (i ∷ is) (j ∷ js) met n was =
    by_step (stepped u v met i j) refl (λ all now. walked_holds u v (p ++ (i ∷ [])) (q ++ (j ∷ [])) is js all (suc n) now)
  where
    by_step : (o : Option (List (ℕ × ℕ))) → stepped u v met i j ≡ o →
        ((all : List (ℕ × ℕ)) → Walked u v (p ++ (i ∷ [])) (q ++ (j ∷ [])) all (suc n) → IsVerdict u v ((p ++ (i ∷ [])) ++ is) ((q ++ (j ∷ [])) ++ js) (walked u v (Some all) (suc n) is js)) →
        IsVerdict u v (p ++ (i ∷ is)) (q ++ (j ∷ js)) (walked u v o (counted n o) is js)
    by_step None none rest = ends_here u v p q is js i j met n was (cant_step u v p q met n i j was none)
    by_step (Some all) some rest = subst₂ (λ (xs ys : List Input). IsVerdict u v xs ys (walked u v (Some all) (suc n) is js)) (append_assoc p (i ∷ []) is) (append_assoc q (j ∷ []) js)
        (rest all (can_step u v p q met all n i j was some))

-- where it begins
empty : (a b : ℕ) → among [] a b ≡ true → ⊥
empty a b h = cc

no_pairs : IsOneToOne (among [])
no_pairs = record { to = λ a b c ab ac. absurd (empty a b ab); from = λ a b c ac bc. absurd (empty a c ac) }

pub walk_holds : (u v : Guest) (is js : List Input) → IsVerdict u v is js (walk u v is js)
walk_holds u v is js = by_alike (alike u v) refl
  where
    by_joined : (o : Option (List (ℕ × ℕ))) → alike u v ≡ true → IfJoined u v [] (maps_pairs u.maps v.maps) o → IsVerdict u v is js (started u v o is js)
    by_joined None h tells = λ r same. tells r same.one same.guests.cells (none_in r) (maps_forced r u.maps v.maps same.guests.maps)
    by_joined (Some met) h tells = walked_holds u v [] [] is js met 0 (record {
      alike = h;
      agreement = record { one = tells.one; guests = guests_made (among met) u v h tells.new tells.cells; inputs = tt };
      least = λ r same. tells.only r (none_in r) (maps_forced r u.maps v.maps same.guests.maps);
      first = refl;
      second = refl;
    })

    by_alike : (t : Bool) → alike u v ≡ t → IsVerdict u v is js (if t then started u v (joined u v [] (maps_pairs u.maps v.maps)) is js else Views)
    by_alike true h = by_joined (joined u v [] (maps_pairs u.maps v.maps)) h (joined_tells u v [] (maps_pairs u.maps v.maps) no_pairs (λ a b pair. absurd (empty a b pair)))
    by_alike false h = λ r same. let found = alike_found r u v same.guests in absurd (cc)
