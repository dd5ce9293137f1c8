-- What a selector names, and capabilities there.
use Rattle.std.proofs.Common.{◌≡◌, ◌<◌, ℕ, List, [], ◌∷◌, length, inl, inr, refl, sym, ap, ◌∙◌, arith}
use Rattle.std.specs.Prelude.{◌^◌, ◌==◌, ◌&&◌, ◌||◌, ◌⊎◌, Bool, true, false, if◌then◌else◌, is_some, nat_le, nat_lt, slice_get, Option, Some, None, option_and_then, Ok}
use Rattle.std.specs.List.{cons_option, filter_map, find, list_any, range_with_len}
use Rattle.std.proofs.lemmas.Bool.{and_parts, eqb-true}
use Rattle.std.proofs.lemmas.Bool.Decides.{nat_tests}
use Rattle.nova_objects.specs.declared.object.Object.{Object}
use Rattle.nova_range.specs.Ranges.{HasPlace, end_of, overlaps}
use Rattle.nova_range.specs.declared.range.Kind.{Kind}
use Rattle.nova_range.specs.declared.range.Kind.TheVariants.{Obj}
use Rattle.nova_range.specs.declared.range.Range.{Range}
use Rattle.nova_model.specs.Capabilities.{allowed, is_held, named, or_bad_cap}
use Rattle.nova_model.specs.Delegations.{covers, has_place, is_same_kind, range_of}
use Rattle.nova_range.specs.Rights.{allows}
use Rattle.nova_model.specs.Forest.{AreApart, ArePairs, IsForest}
use Rattle.nova_model.specs.Revokes.{Revocation}
use Rattle.nova_model.specs.Running.{Running, is_of_objects, is_revoked, revoke_of, running, running_of}
use Rattle.nova_model.specs.State.{KernelState}
use Rattle.nova_model.specs.declared.delegation.Derivation.{Derivation}
use Rattle.law_forest.proofs.Members.{IsIn, all_at, contains_from_in, found_in, in_from_contains, none_any, none_found}
use Rattle.law_forest.proofs.Pairs.{pairs_at}
use Rattle.law_forest.proofs.Running.{running_has}
use Rattle.law_forest.proofs.Transfers.{kinds_equal}
use Rattle.law_forest.proofs.Walk.{IfDone}
use Rattle.law_turns.specs.Asked.{HoldsAt, IsHeldAt, IsRevokedAt}
use Rattle.law_turns.specs.Tables.{IsOf}

-- A DERIVATION THAT COVERS

pub has_from : (r : Range) (place : ℕ) → has_place r place ≡ true → HasPlace r place
has_from r place h =
    let parts = and_parts (nat_le r.base place) (nat_lt place (end_of r)) h in
    let least = parts.0 in
    let last = parts.1 in
    record { from_base = grind (arith, nat_tests); before_end = grind (arith, nat_tests) }

pub from_has : (r : Range) (place : ℕ) → HasPlace r place → has_place r place ≡ true
from_has r place h = let least = h.from_base in let last = h.before_end in grind (arith, nat_tests)

held_from : (k : KernelState) (domain selector : ℕ) (d : Derivation) → IsIn k.delegations.list d → covers Obj domain selector d ≡ true → IsHeldAt k domain selector d
held_from k domain selector d there h =
    let parts = and_parts (is_same_kind Obj d.kind) (d.pd == domain && has_place (range_of d) selector) h in
    let rest = and_parts (d.pd == domain) (has_place (range_of d) selector) parts.1 in
    record {
      there = contains_from_in k.delegations.list d there;
      holder = eqb-true d.pd domain rest.0;
      kind = sym (kinds_equal Obj d.kind parts.0);
      place = has_from (range_of d) selector rest.1;
    }

from_held : (k : KernelState) (domain selector : ℕ) (d : Derivation) → IsHeldAt k domain selector d → covers Obj domain selector d ≡ true
from_held k domain selector d h =
    let kind : is_same_kind Obj d.kind ≡ true = ap (is_same_kind Obj) h.kind in
    let its : (d.pd == domain) ≡ true = let same = h.holder in grind arith in
    rw (kind, its) (from_has (range_of d) selector h.place)

-- ONLY ONE

pub meet : (a b : Range) (place : ℕ) → HasPlace a place → HasPlace b place → overlaps a b ≡ true
meet a b place h i =
    let a_least = h.from_base in
    let a_last = h.before_end in
    let b_least = i.from_base in
    let b_last = i.before_end in
    grind (arith, nat_tests)

abbrev pub Apart : Derivation → Derivation → Type 0
Apart a b = a.pd ≡ b.pd → a.kind ≡ b.kind → AreApart a b

not_both : (k : KernelState) (domain selector : ℕ) (a b : Derivation) → IsHeldAt k domain selector a → IsHeldAt k domain selector b → Apart a b → ⊥
not_both k domain selector a b h i apart =
    let none = apart (h.holder ∙ sym i.holder) (h.kind ∙ sym i.kind) in
    let some = meet (range_of a) (range_of b) selector h.place i.place in
    absurd (cc)

only_among : (k : KernelState) (domain selector : ℕ) (a b : Derivation) → IsHeldAt k domain selector a → IsHeldAt k domain selector b →
    (ds : List Derivation) → ArePairs Apart ds → IsIn ds a → IsIn ds b → a ≡ b
only_among k domain selector a b h i ds apart there here = by_pair (pairs_at Apart ds a b apart there here)
  where
    by_pair : (a ≡ b) ⊎ (Apart a b ⊎ Apart b a) → a ≡ b
    by_pair (inl same) = same
    by_pair (inr (inl far)) = absurd (not_both k domain selector a b h i far)
    by_pair (inr (inr far)) = absurd (not_both k domain selector b a i h far)

found_held : (k : KernelState) (domain selector : ℕ) (d : Derivation) → IsForest k.delegations → IsHeldAt k domain selector d →
    find (covers Obj domain selector) k.delegations.list ≡ Some d
found_held k domain selector d forest h = by_found (find (covers Obj domain selector) k.delegations.list) refl
  where
    list : List Derivation
    list = k.delegations.list

    by_found : (o : Option Derivation) → find (covers Obj domain selector) k.delegations.list ≡ o → o ≡ Some d
    by_found None is =
        let fails = all_at (λ x. covers Obj domain selector x ≡ false) list d (none_found (covers Obj domain selector) list (ap is_some is)) (in_from_contains list d h.there) in
        let passes = from_held k domain selector d h in
        absurd (cc)
    by_found (Some x) is =
        let its = found_in (covers Obj domain selector) list x is in
        ap (λ (y : Derivation). Some y)
        (only_among k domain selector x d (held_from k domain selector x its.0 its.1) h list forest.apart its.0 (in_from_contains list d h.there))

-- WHAT IS NAMED

pub record IsNamedAt (k : KernelState) (domain selector right : ℕ) (is : Object → Bool) (number : ℕ) : Type 0 where
  pub holds : selector < 2 ^ 20 → HoldsAt k domain selector right number
  pub object : IsOf k.objects is number

pub named_at : (k : KernelState) (domain : ℕ) (is : Object → Bool) (right selector : ℕ) →
    IfDone (IsNamedAt k domain selector right is) (named k domain is right selector)
named_at k domain is right selector = by_capability (find (covers Obj domain selector) k.delegations.list) refl
  where
    by_right : (d : Derivation) → IsHeldAt k domain selector d → (fits may : Bool) → (fits ≡ true → IsOf k.objects is d.target) → allows d.rights right ≡ may →
        IfDone (IsNamedAt k domain selector right is) (or_bad_cap (if fits && may then Some d.target else None))
    by_right d held true true leads allowed = record {
      holds = λ below. record { below = below; capability = d; held = held; leads = refl; allowed = allowed };
      object = leads refl;
    }
    by_right d held true false leads allowed = tt
    by_right d held false may leads allowed = tt

    by_object : (d : Derivation) → IsHeldAt k domain selector d → (o : Option Object) → slice_get k.objects d.target ≡ o →
        IfDone (IsNamedAt k domain selector right is) (or_bad_cap (option_and_then (λ x. if is x && allows d.rights right then Some d.target else None) o))
    by_object d held None at = tt
    by_object d held (Some x) at = by_right d held (is x) (allows d.rights right) (λ h. rw (at, h) refl) refl

    by_capability : (c : Option Derivation) → find (covers Obj domain selector) k.delegations.list ≡ c →
        IfDone (IsNamedAt k domain selector right is) (or_bad_cap (option_and_then (allowed k.objects is right) c))
    by_capability None found = tt
    by_capability (Some d) found =
        let its = found_in (covers Obj domain selector) k.delegations.list d found in
        by_object d (held_from k domain selector d its.0 its.1) (slice_get k.objects d.target) refl

allowed_is : (os : List Object) (is : Object → Bool) (right number : ℕ) (d : Derivation) (o : Object) → d.target ≡ number → slice_get os number ≡ Some o → is o ≡ true →
    allows d.rights right ≡ true → allowed os is right d ≡ Some number
allowed_is os is right number d o leads at fits may =
    let there : slice_get os d.target ≡ Some o = ap (slice_get os) leads ∙ at in
    rw (there, fits, may) (ap (λ (n : ℕ). Some n) leads)

pub named_is : (k : KernelState) (domain : ℕ) (is : Object → Bool) (right selector number : ℕ) (o : Object) → IsForest k.delegations →
    HoldsAt k domain selector right number → slice_get k.objects number ≡ Some o → is o ≡ true → named k domain is right selector ≡ Ok number
named_is k domain is right selector number o forest h at fits =
    ap (λ (c : Option Derivation). or_bad_cap (option_and_then (allowed k.objects is right) c)) (found_held k domain selector h.capability forest h.held)
    ∙ ap or_bad_cap (allowed_is k.objects is right number h.capability o h.leads at fits h.allowed)

-- WHAT IS FREE

pub free_from : (k : KernelState) (domain selector : ℕ) → is_held k domain selector ≡ false → (d : Derivation) → IsHeldAt k domain selector d → ⊥
free_from k domain selector none d h =
    let list = k.delegations.list in
    let fails = all_at (λ x. covers Obj domain selector x ≡ false) list d (none_found (covers Obj domain selector) list none) (in_from_contains list d h.there) in
    let passes = from_held k domain selector d h in
    absurd (cc)

pub from_free : (k : KernelState) (domain selector : ℕ) → ((d : Derivation) → IsHeldAt k domain selector d → ⊥) → is_held k domain selector ≡ false
from_free k domain selector free = by_found (find (covers Obj domain selector) k.delegations.list) refl
  where
    by_found : (o : Option Derivation) → find (covers Obj domain selector) k.delegations.list ≡ o → is_some o ≡ false
    by_found None is = refl
    by_found (Some d) is =
        let its = found_in (covers Obj domain selector) k.delegations.list d is in
        absurd (free d (held_from k domain selector d its.0 its.1))

-- WHAT IS REVOKED

revoked_from : (k : KernelState) (domain selector ec : ℕ) (r : Revocation) → revoke_of k ec ≡ Some r →
    is_of_objects domain selector (record { ec = ec; revoke = r }) ≡ true → IsRevokedAt k domain selector r
revoked_from k domain selector ec r runs h =
    let parts = and_parts (is_same_kind r.range.kind Obj) (r.pd == domain && has_place r.range selector) h in
    let rest = and_parts (r.pd == domain) (has_place r.range selector) parts.1 in
    record {
      ec = ec;
      runs = runs;
      revoker = eqb-true r.pd domain rest.0;
      kind = kinds_equal r.range.kind Obj parts.0;
      place = has_from r.range selector rest.1;
    }

from_revoked : (k : KernelState) (domain selector : ℕ) (r : Revocation) (h : IsRevokedAt k domain selector r) →
    is_of_objects domain selector (record { ec = h.ec; revoke = r }) ≡ true
from_revoked k domain selector r h =
    let kind : is_same_kind r.range.kind Obj ≡ true = ap (λ (n : Kind). is_same_kind n Obj) h.kind in
    let its : (r.pd == domain) ≡ true = let same = h.revoker in grind arith in
    rw (kind, its) (from_has r.range selector h.place)

pub idle_from : (k : KernelState) (domain selector : ℕ) → is_revoked k domain selector ≡ false → (r : Revocation) → IsRevokedAt k domain selector r → ⊥
idle_from k domain selector none r h =
    let one : Running = record { ec = h.ec; revoke = r } in
    let fails = all_at (λ w. is_of_objects domain selector w ≡ false) (running k) one
    (none_any (is_of_objects domain selector) (running k) none) (in_from_contains (running k) one (running_has k h.ec r h.runs)) in
    let passes = from_revoked k domain selector r h in
    absurd (cc)

pub from_idle : (k : KernelState) (domain selector : ℕ) → ((r : Revocation) → IsRevokedAt k domain selector r → ⊥) → is_revoked k domain selector ≡ false
from_idle k domain selector idle = among (range_with_len 0 (length k.contexts))
  where
    by_runs : (e : ℕ) (ws : List Running) (o : Option Revocation) → revoke_of k e ≡ o → list_any (is_of_objects domain selector) ws ≡ false →
        list_any (is_of_objects domain selector) (cons_option (running_of e o) ws) ≡ false
    by_runs e ws None is rest = rest
    by_runs e ws (Some r) is rest = by_test (is_of_objects domain selector (record { ec = e; revoke = r })) refl
      where
        by_test : (t : Bool) → is_of_objects domain selector (record { ec = e; revoke = r }) ≡ t → (t || list_any (is_of_objects domain selector) ws) ≡ false
        by_test true passes = absurd (idle r (revoked_from k domain selector e r is passes))
        by_test false passes = rest

    among : (es : List ℕ) → list_any (is_of_objects domain selector) (filter_map (λ e. running_of e (revoke_of k e)) es) ≡ false
    among [] = refl
    among (e ∷ es) = by_runs e (filter_map (λ n. running_of n (revoke_of k n)) es) (revoke_of k e) refl (among es)
