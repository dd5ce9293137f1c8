-- The contexts that may wait for a handler stay known where a context changes and where one joins.
use Rattle.std.proofs.Common.{◌≡◌, ℕ, zero, suc, ◌<◌, List, [], ◌∷◌, ◌++◌, length, ap, sym, ◌∙◌, subst, refl, arith}
use Rattle.std.specs.Prelude.{Bool, true, false, ◌==◌, ◌≢◌, if◌then◌else◌, Option, Some, None, IfSome, slice_get, slice_set, option_map, option_and_then}
use Rattle.std.proofs.lemmas.List.{length-set}
use Rattle.nova_model.specs.State.{Contexts, ec_in}
use Rattle.nova_model.specs.Edges.{AreEdges, edge, edge_of}
use Rattle.nova_model.specs.declared.context.EcState.{EcState}
use Rattle.nova_ec.specs.Tables.{MayBecome}
use Rattle.nova_ec.specs.Waiting.{AreKnown, IsAmong, changed, changed_by, with_waiter, without_waiter}
use Rattle.nova_ec.specs.declared.waiters.Waiters.{Waiters}
use Rattle.nova_ec.specs.declared.waiters.Waiters.TheVariants.{Nobody, Only, Several}
use Rattle.nova_ec.proofs.Tables.{edge-more, edge-set_other, edge-set_same, edge_below}

-- THOSE OF ONE HANDLER

among_with : (these : Waiters) (e z : ℕ) → IsAmong z these → IsAmong z (with_waiter e these)
among_with Nobody e z is = absurd is
among_with (Only other) e z is = by_test (other == e)
  where
    by_test : (t : Bool) → IsAmong z (if t then Only other else Several)
    by_test true = is
    by_test false = tt
among_with Several e z is = tt

among_without : (these : Waiters) (e z : ℕ) → z ≢ e → IsAmong z these → IsAmong z (without_waiter e these)
among_without Nobody e z apart is = absurd is
among_without (Only other) e z apart is = by_test (other == e) refl
  where
    by_test : (t : Bool) → (other == e) ≡ t → IsAmong z (if t then Nobody else Only other)
    by_test true at = absurd (apart (sym is ∙ (let same : other ≡ e = grind (arith, at) in same)))
    by_test false at = is
among_without Several e z apart is = tt

joins : (these : Waiters) (z : ℕ) → IsAmong z (with_waiter z these)
joins Nobody z = refl
joins (Only other) z = by_test (other == z) refl
  where
    by_test : (t : Bool) → (other == z) ≡ t → IsAmong z (if t then Only other else Several)
    by_test true at = let same : other ≡ z = grind (arith, at) in same
    by_test false at = tt
joins Several z = tt

-- THOSE OF ALL

set_keeps : (f : Waiters → Waiters) (all : List Waiters) (n h z : ℕ) (these : Waiters) → slice_get all n ≡ Some these → (IsAmong z these → IsAmong z (f these)) →
    IfSome (slice_get all h) (IsAmong z) → IfSome (slice_get (slice_set all n (f these)) h) (IsAmong z)
set_keeps f [] n h z these there keeps is = absurd cc
set_keeps f (x ∷ all) zero zero z these there keeps is = let same : x ≡ these = cc in keeps (subst (IsAmong z) same is)
set_keeps f (x ∷ all) zero (suc h) z these there keeps is = is
set_keeps f (x ∷ all) (suc n) zero z these there keeps is = is
set_keeps f (x ∷ all) (suc n) (suc h) z these there keeps is = set_keeps f all n h z these there keeps is

changed_keeps : (f : Waiters → Waiters) (o : Option ℕ) (all : List Waiters) (h z : ℕ) → ((these : Waiters) → IsAmong z these → IsAmong z (f these)) →
    IfSome (slice_get all h) (IsAmong z) → IfSome (slice_get (changed f o all) h) (IsAmong z)
changed_keeps f None all h z keeps is = is
changed_keeps f (Some n) all h z keeps is = by_entry (slice_get all n) refl
  where
    by_entry : (o : Option Waiters) → slice_get all n ≡ o → IfSome (slice_get (changed_by f n all o) h) (IsAmong z)
    by_entry None there = is
    by_entry (Some these) there = set_keeps f all n h z these there (keeps these) is

set_joins : (all : List Waiters) (h z : ℕ) (these : Waiters) → slice_get all h ≡ Some these → IfSome (slice_get (slice_set all h (with_waiter z these)) h) (IsAmong z)
set_joins [] h z these there = absurd cc
set_joins (x ∷ all) zero z these there = joins these z
set_joins (x ∷ all) (suc h) z these there = set_joins all h z these there

changed_joins : (all : List Waiters) (h z : ℕ) → IfSome (slice_get (changed (with_waiter z) (Some h) all) h) (IsAmong z)
changed_joins all h z = by_entry (slice_get all h) refl
  where
    by_entry : (o : Option Waiters) → slice_get all h ≡ o → IfSome (slice_get (changed_by (with_waiter z) h all o) h) (IsAmong z)
    by_entry None there = subst (λ (o : Option Waiters). IfSome o (IsAmong z)) (sym there) tt
    by_entry (Some these) there = set_joins all h z these there

pub length-changed : (f : Waiters → Waiters) (o : Option ℕ) (all : List Waiters) → length (changed f o all) ≡ length all
length-changed f None all = refl
length-changed f (Some h) all = by_entry (slice_get all h)
  where
    by_entry : (o : Option Waiters) → length (changed_by f h all o) ≡ length all
    by_entry None = refl
    by_entry (Some these) = length-set all h (f these)

get_more : (all : List Waiters) (x : Waiters) (h : ℕ) → h < length all → slice_get (all ++ x ∷ []) h ≡ slice_get all h
get_more [] x h below = absurd (omega (arith, below))
get_more (y ∷ all) x zero below = refl
get_more (y ∷ all) x (suc h) below = get_more all x h (omega (arith, below))

-- THE TABLE

pub known_none : AreKnown [] []
known_none z h is = absurd cc

-- a context changes: it leaves the handler that it may have waited for, and joins the waiters of that which it waits for then
pub known_put : (cs : Contexts) (all : List Waiters) (e : ℕ) (y : EcState) (left : Option ℕ) → AreKnown cs all → MayBecome cs e y →
    AreKnown (slice_set cs e (Some y)) (changed (with_waiter e) (edge_of y.state) (changed (without_waiter e) left all))
known_put cs all e y left known may z h is = by_place (z == e) refl
  where
    by_edge : (o : Option ℕ) → o ≡ Some h → IfSome (slice_get (changed (with_waiter e) o (changed (without_waiter e) left all)) h) (IsAmong e)
    by_edge None at = absurd cc
    by_edge (Some g) at =
        let same : g ≡ h = cc in
        subst (λ (n : ℕ). IfSome (slice_get (changed (with_waiter e) (Some g) (changed (without_waiter e) left all)) n) (IsAmong e)) same
        (changed_joins (changed (without_waiter e) left all) g e)

    by_place : (t : Bool) → (z == e) ≡ t → IfSome (slice_get (changed (with_waiter e) (edge_of y.state) (changed (without_waiter e) left all)) h) (IsAmong z)
    by_place true place =
        let at : z ≡ e = grind (arith, place) in
        subst (λ (n : ℕ). IfSome (slice_get (changed (with_waiter e) (edge_of y.state) (changed (without_waiter e) left all)) h) (IsAmong n)) (sym at)
        (by_edge (edge_of y.state) (sym (edge-set_same cs e may.0 y may.1) ∙ ap (edge (slice_set cs e (Some y))) (sym at) ∙ is))
    by_place false place =
        let apart : z ≢ e = λ at. absurd (grind (arith, place, at)) in
        changed_keeps (with_waiter e) (edge_of y.state) (changed (without_waiter e) left all) h z (λ these among. among_with these e z among)
        (changed_keeps (without_waiter e) left all h z (λ these among. among_without these e z apart among)
        (known z h (sym (edge-set_other cs e y z apart) ∙ is)))

-- one keeps its state
pub known_kept : (cs : Contexts) (all : List Waiters) (e : ℕ) (x y : EcState) → AreKnown cs all → ec_in cs e ≡ Some x → y.state ≡ x.state → AreKnown (slice_set cs e (Some y)) all
known_kept cs all e x y known there state z h is = by_place (z == e) refl
  where
    before : edge cs e ≡ edge_of x.state
    before = ap (λ (o : Option EcState). option_and_then edge_of (option_map (λ (w : EcState). w.state) o)) there

    by_place : (t : Bool) → (z == e) ≡ t → IfSome (slice_get all h) (IsAmong z)
    by_place true place =
        let at : z ≡ e = grind (arith, place) in
        subst (λ (n : ℕ). IfSome (slice_get all h) (IsAmong n)) (sym at)
        (known e h (before ∙ ap edge_of (sym state) ∙ sym (edge-set_same cs e x y there) ∙ ap (edge (slice_set cs e (Some y))) (sym at) ∙ is))
    by_place false place = known z h (sym (edge-set_other cs e y z (λ at. absurd (grind (arith, place, at)))) ∙ is)

-- a context joins, for which none waits yet
pub known_more : (cs : Contexts) (all : List Waiters) (o : Option EcState) → AreEdges cs → length all ≡ length cs →
    option_and_then edge_of (option_map (λ (z : EcState). z.state) o) ≡ None → AreKnown cs all → AreKnown (cs ++ o ∷ []) (all ++ Nobody ∷ [])
known_more cs all o sound long none known z h is =
    let was : edge cs z ≡ Some h = sym (edge-more cs o z none) ∙ is in
    let below = edge_below cs sound z h was in
    subst (λ (at : Option Waiters). IfSome at (IsAmong z)) (sym (get_more all Nobody h (omega (arith, below, long)))) (known z h was)

pub length-both : (cs : Contexts) (all : List Waiters) (o : Option EcState) → length all ≡ length cs → length (all ++ Nobody ∷ []) ≡ length (cs ++ o ∷ [])
length-both cs all o long = more all Nobody ∙ ap suc long ∙ sym (more cs o)
  where
    more : {T : Type 0} (xs : List T) (x : T) → length (xs ++ x ∷ []) ≡ suc (length xs)
    more [] x = refl
    more (y ∷ xs) x = ap suc (more xs x)

-- a context that waits is among those that are kept
pub among_kept : (cs : Contexts) (all : List Waiters) (e : ℕ) (these : Waiters) → AreKnown cs all → slice_get all e ≡ Some these → (z : ℕ) → edge cs z ≡ Some e → IsAmong z these
among_kept cs all e these known at z is = subst (λ (o : Option Waiters). IfSome o (IsAmong z)) at (known z e is)
