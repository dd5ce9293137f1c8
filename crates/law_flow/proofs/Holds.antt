-- Two lists of derivations by which the domains of a side hold the same: what is there in one has its twin in the other, and so has what is given next.
use Rattle.std.proofs.Common.{arith, ◌≡◌, ℕ, ◌==◌, ◌≤◌, List, refl, sym, ap, ap₂, ◌∙◌, subst, inl, inr}
use Rattle.std.specs.Prelude.{Bool, true, false, ◌&&◌, ◌⊎◌, is_some, option_map, Option, Some, None}
use Rattle.std.specs.List.{find}
use Rattle.std.proofs.lemmas.Bool.{and_parts, eqb-true, eq-eqb}
use Rattle.std.proofs.lemmas.Nat.{pow_pos}
use Rattle.std.proofs.lemmas.Option.{same_Some}
use Rattle.nova_range.specs.Ranges.{HasPlace, SharesPlace, overlaps}
use Rattle.nova_range.specs.declared.range.Kind.{Kind}
use Rattle.nova_range.specs.declared.range.Range.{Range}
use Rattle.nova_model.specs.Delegations.{covers, has_place, is_held_in, is_same_kind, meets, range_of}
use Rattle.nova_model.specs.Forest.{ArePairs}
use Rattle.nova_model.specs.Transfers.{next_source, source_of}
use Rattle.nova_model.specs.declared.delegation.Derivation.{Derivation}
use Rattle.nova_model.specs.declared.transfer.Job.{Job}
use Rattle.law_forest.proofs.Extremes.{any_from, any_in}
use Rattle.law_forest.proofs.Members.{IsIn, all_at, contains_from_in, found_in, in_from_contains, none_found}
use Rattle.law_forest.proofs.Pairs.{pairs_at}
use Rattle.law_forest.proofs.Transfers.{kind_itself, kinds_equal}
use Rattle.law_turns.proofs.Holding.{Apart, from_has, has_from, meet}
use Rattle.law_turns.proofs.Leaving.{first_left, nothing_left}
use Rattle.law_turns.specs.Left.{IsFirstLeft, IsLeft}
use Rattle.law_flow.specs.Flow.{Held, held_by, origin_of}

-- ONE THAT COVERS A PLACE

pub record Covering (sort : Kind) (domain at : ℕ) (d : Derivation) : Type 0 where
  pub kind : sort ≡ d.kind
  pub pd : d.pd ≡ domain
  pub place : HasPlace (range_of d) at

pub covering : (kind : Kind) (pd place : ℕ) (d : Derivation) → covers kind pd place d ≡ true → Covering kind pd place d
covering kind pd place d h =
    let both = and_parts (is_same_kind kind d.kind) (d.pd == pd && has_place (range_of d) place) h in
    let rest = and_parts (d.pd == pd) (has_place (range_of d) place) both.1 in
    record { kind = kinds_equal kind d.kind both.0; pd = eqb-true d.pd pd rest.0; place = has_from (range_of d) place rest.1 }

pub covered : (kind : Kind) (pd place : ℕ) (d : Derivation) → Covering kind pd place d → covers kind pd place d ≡ true
covered kind pd place d c =
    let same : is_same_kind kind d.kind ≡ true = kind_itself kind d.kind c.kind in
    let its : (d.pd == pd) ≡ true = eq-eqb d.pd pd c.pd in
    rw (same, its) (from_has (range_of d) place c.place)

-- a derivation covers its own base
pub at_base : (d : Derivation) → Covering d.kind d.pd d.base d
at_base d = let some = pow_pos d.order in record { kind = refl; pd = refl; place = record { from_base = omega arith; before_end = omega (arith, some) } }

far : (kind : Kind) (pd place : ℕ) (a b : Derivation) → Covering kind pd place a → Covering kind pd place b → Apart a b → ⊥
far kind pd place a b c d apart =
    let none = apart (c.pd ∙ sym d.pd) (sym c.kind ∙ d.kind) in
    let some = meet (range_of a) (range_of b) place c.place d.place in
    absurd (cc)

-- of those that are apart just one does
pub one_covers : (list : List Derivation) (kind : Kind) (pd place : ℕ) (a b : Derivation) → ArePairs Apart list → IsIn list a → IsIn list b → Covering kind pd place a → Covering kind pd place b → a ≡ b
one_covers list kind pd place a b apart there here c d = by_pair (pairs_at Apart list a b apart there here)
  where
    by_pair : (a ≡ b) ⊎ (Apart a b ⊎ Apart b a) → a ≡ b
    by_pair (inl same) = same
    by_pair (inr (inl h)) = absurd (far kind pd place a b c d h)
    by_pair (inr (inr h)) = absurd (far kind pd place b a d c h)

pub found_one : (list : List Derivation) (kind : Kind) (pd place : ℕ) (d : Derivation) → ArePairs Apart list → IsIn list d → Covering kind pd place d → find (covers kind pd place) list ≡ Some d
found_one list kind pd place d apart there c = by_found (find (covers kind pd place) list) refl
  where
    by_found : (o : Option Derivation) → find (covers kind pd place) list ≡ o → o ≡ Some d
    by_found None none =
        let fails = all_at (λ x. covers kind pd place x ≡ false) list d (none_found (covers kind pd place) list (ap is_some none)) there in
        let passes = covered kind pd place d c in
        absurd (cc)
    by_found (Some x) found =
        let its = found_in (covers kind pd place) list x found in
        ap (λ (y : Derivation). Some y) (one_covers list kind pd place x d apart its.0 there (covering kind pd place x its.1) c)

-- TWINS

-- the domains hold the same at each place
abbrev pub HoldAlike : (ℕ → Type 0) → List Derivation → List Derivation → Type 0
HoldAlike S xs ys = (kind : Kind) (pd place : ℕ) → S pd → ◌≡◌ {A = Option Held} (option_map held_by (find (covers kind pd place) ys)) (option_map held_by (find (covers kind pd place) xs))

-- and what they hold comes of the same of theirs
abbrev pub ComeAlike : (ℕ → Type 0) → List Derivation → List Derivation → Type 0
ComeAlike S xs ys = (kind : Kind) (pd place from : ℕ) → S pd → S from → origin_of ys from (find (covers kind pd place) ys) ≡ origin_of xs from (find (covers kind pd place) xs)

pub hold_flipped : (S : ℕ → Type 0) (xs ys : List Derivation) → HoldAlike S xs ys → HoldAlike S ys xs
hold_flipped S xs ys same kind pd place s = sym (same kind pd place s)

-- the same in all but number and parent
pub record IsTwin (d e : Derivation) : Type 0 where
  pub pd : e.pd ≡ d.pd
  pub held : held_by e ≡ held_by d

pub record HasTwin (ys : List Derivation) (d : Derivation) : Type 0 where
  pub twin : Derivation
  pub there : IsIn ys twin
  pub is : IsTwin d twin

pub twin_in : (S : ℕ → Type 0) (xs ys : List Derivation) → ArePairs Apart xs → HoldAlike S xs ys → (d : Derivation) → IsIn xs d → S d.pd → HasTwin ys d
twin_in S xs ys apart same d there s =
    by_found (find (covers d.kind d.pd d.base) ys) refl
    (same d.kind d.pd d.base s ∙ ap (option_map held_by) (found_one xs d.kind d.pd d.base d apart there (at_base d)))
  where
    by_found : (o : Option Derivation) → find (covers d.kind d.pd d.base) ys ≡ o → ◌≡◌ {A = Option Held} (option_map held_by o) (Some (held_by d)) → HasTwin ys d
    by_found None is h = absurd (cc)
    by_found (Some e) is h =
        let its = found_in (covers d.kind d.pd d.base) ys e is in
        record { twin = e; there = its.0; is = record { pd = (covering d.kind d.pd d.base e its.1).pd; held = same_Some (held_by e) (held_by d) h } }

-- WHAT IS GIVEN NEXT

left_twin : (j : Job) (d e : Derivation) → IsTwin d e → IsLeft j d → IsLeft j e
left_twin j d e t left =
    let range : range_of e ≡ range_of d = ap (λ (h : Held). h.range) t.held in
    record {
      giver = t.pd ∙ left.giver;
      kind = ap (λ (r : Range). r.kind) range ∙ left.kind;
      ahead = subst (λ (r : Range). j.cursor ≤ r.base) (sym range) left.ahead;
      shares = subst (λ (r : Range). SharesPlace r (source_of j)) (sym range) left.shares;
    }

-- the first that is left of both
pub first_same : (S : ℕ → Type 0) (xs ys : List Derivation) → ArePairs Apart xs → ArePairs Apart ys → HoldAlike S xs ys → (j : Job) → S j.giver → (d e : Derivation) → IsFirstLeft xs j d → IsFirstLeft ys j e → IsTwin d e
first_same S xs ys first second same j s d e mine next =
    let t = twin_in S xs ys first same d (in_from_contains xs d mine.there) (subst S (sym mine.left.giver) s) in
    let u = twin_in S ys xs second (hold_flipped S xs ys same) e (in_from_contains ys e next.there) (subst S (sym next.left.giver) s) in
    let left = left_twin j d t.twin t.is mine.left in
    let here : t.twin.base ≡ d.base = ap (λ (h : Held). h.range.base) t.is.held in
    let there : u.twin.base ≡ e.base = ap (λ (h : Held). h.range.base) u.is.held in
    let low = next.least t.twin (contains_from_in ys t.twin t.there) left in
    let high = mine.least u.twin (contains_from_in xs u.twin u.there) (left_twin j e u.twin u.is next.left) in
    let base : t.twin.base ≡ e.base = omega (arith, here, there, low, high) in
    let one : t.twin ≡ e =
    one_covers ys e.kind e.pd e.base t.twin e second t.there (in_from_contains ys e next.there)
    (record { kind = next.left.kind ∙ sym left.kind; pd = left.giver ∙ sym next.left.giver; place = subst (HasPlace (range_of t.twin)) base (at_base t.twin).place }) (at_base e) in
    subst (IsTwin d) one t.is

abbrev pub AreNext : Option Derivation → Option Derivation → Type 0
AreNext None None = Unit {0}
AreNext (Some d) (Some e) = IsTwin d e
AreNext other another = ⊥

pub next_same : (S : ℕ → Type 0) (xs ys : List Derivation) → ArePairs Apart xs → ArePairs Apart ys → HoldAlike S xs ys → (j : Job) → S j.giver → AreNext (next_source xs j) (next_source ys j)
next_same S xs ys first second same j s = by_both (next_source xs j) refl (next_source ys j) refl
  where
    none_there : (ms ns : List Derivation) → ArePairs Apart ns → HoldAlike S ns ms → next_source ms j ≡ None → (e : Derivation) → next_source ns j ≡ Some e → ⊥
    none_there ms ns apart alike none e is =
        let next = first_left ns j e is in
        let t = twin_in S ns ms apart alike e (in_from_contains ns e next.there) (subst S (sym next.left.giver) s) in
        (nothing_left ms j).0 none t.twin (contains_from_in ms t.twin t.there) (left_twin j e t.twin t.is next.left)

    by_both : (o : Option Derivation) → next_source xs j ≡ o → (p : Option Derivation) → next_source ys j ≡ p → AreNext o p
    by_both None is None its = tt
    by_both None is (Some e) its = none_there xs ys second (hold_flipped S xs ys same) is e its
    by_both (Some d) is None its = none_there ys xs first same its d is
    by_both (Some d) is (Some e) its = first_same S xs ys first second same j s d e (first_left xs j d is) (first_left ys j e its)

-- and whether some place of a range is held
pub held_so : (S : ℕ → Type 0) (xs ys : List Derivation) → ArePairs Apart xs → ArePairs Apart ys → HoldAlike S xs ys → (pd : ℕ) (r : Range) → S pd → is_held_in ys pd r ≡ is_held_in xs pd r
held_so S xs ys first second same pd r s = by_tests (is_held_in xs pd r) refl (is_held_in ys pd r) refl
  where
    goes : (ms ns : List Derivation) → ArePairs Apart ms → HoldAlike S ms ns → is_held_in ms pd r ≡ true → is_held_in ns pd r ≡ true
    goes ms ns apart alike h =
        let some = any_in (meets pd r) ms h in
        let d : Derivation = some.0 in
        let both = and_parts (is_same_kind r.kind d.kind) (d.pd == pd && overlaps (range_of d) r) some.2 in
        let mine : d.pd ≡ pd = eqb-true d.pd pd (and_parts (d.pd == pd) (overlaps (range_of d) r) both.1).0 in
        let t = twin_in S ms ns apart alike d some.1 (subst S (sym mine) s) in
        any_from (meets pd r) ns t.twin t.there
        (ap₂ (λ (n : ℕ) (h : Held). is_same_kind r.kind h.range.kind && (n == pd && overlaps h.range r)) t.is.pd t.is.held ∙ some.2)

    by_tests : (t : Bool) → is_held_in xs pd r ≡ t → (u : Bool) → is_held_in ys pd r ≡ u → u ≡ t
    by_tests true is true its = refl
    by_tests false is false its = refl
    by_tests true is false its = let some = goes xs ys first same is in absurd (cc)
    by_tests false is true its = let some = goes ys xs second (hold_flipped S xs ys same) its in absurd (cc)
