-- Each pair of capabilities to memory is told once: derivations stand by rising numbers, and a pair tells those of both.
use Rattle.std.proofs.Common.{◌≡◌, ◌⊎◌, ◌++◌, ◌<◌, ℕ, List, [], ◌∷◌, refl, sym, ap, inl, inr, arith}
use Rattle.std.specs.Prelude.{◌&&◌, Bool, true, false, if◌then◌else◌, flat_map, Option, Some, None, option_to_list}
use Rattle.std.specs.List.{AllByRecursion}
use Rattle.std.proofs.lemmas.Option.{same_Some}
use Rattle.nova_range.specs.Rights.{allows, write_right}
use Rattle.nova_range.specs.declared.range.Kind.{Kind}
use Rattle.nova_range.specs.declared.range.Kind.TheVariants.{Mem, Obj}
use Rattle.nova_model.specs.Boot.{Scenario, boot}
use Rattle.nova_model.specs.Forest.{ArePairs}
use Rattle.nova_model.specs.Runs.{run}
use Rattle.nova_model.specs.declared.delegation.Derivation.{Derivation}
use Rattle.law_forest.proofs.Changes.{boot_run_forest}
use Rattle.law_forest.proofs.Members.{IsIn, all_at, contains_from_in, in_from_contains}
use Rattle.nova_ties.specs.declared.tie.Cause.{Cause}
use Rattle.nova_ties.specs.declared.tie.Cause.TheVariants as cause
use Rattle.nova_ties.specs.declared.tie.Tie.{Tie}
use Rattle.law_sides.specs.Tied.{are_read, both_read, flowing, flowing_by, flowing_of_kind, flows_by, is_read, meets, overlaps, overlaps_all, overlaps_by, reading, reading_by, weak}
use Rattle.law_sides.specs.Told.{AreOnce}
use Rattle.law_sides.proofs.Lists.{all_flat, all_some}

-- LISTS

in_parts : (xs ys : List Tie) (t : Tie) → IsIn (xs ++ ys) t → IsIn xs t ⊎ IsIn ys t
in_parts [] ys t i = inr i
in_parts (x ∷ xs) ys t (inl same) = inl (inl same)
in_parts (x ∷ xs) ys t (inr later) = elim (in_parts xs ys t later) [
  | inl i ↦ inl (inr i)
  | inr i ↦ inr i
]

once_append : (xs ys : List Tie) → AreOnce xs → AreOnce ys → ((t : Tie) → IsIn xs t → IsIn ys t → ⊥) → AreOnce (xs ++ ys)
once_append [] ys a b apart = b
once_append (x ∷ xs) ys a b apart = (λ there. by_part (in_parts xs ys x (in_from_contains (xs ++ ys) x there)), once_append xs ys a.1 b (λ t i j. apart t (inr i) j))
  where
    by_part : IsIn xs x ⊎ IsIn ys x → ⊥
    by_part (inl i) = a.0 (contains_from_in xs x i)
    by_part (inr i) = apart x (inl refl) i

from_flat : (f : Derivation → List Tie) (list : List Derivation) (t : Tie) → IsIn (flat_map f list) t → (d : Derivation) × IsIn list d × IsIn (f d) t
from_flat f [] t i = absurd i
from_flat f (d ∷ list) t i = by_part (λ later. from_flat f list t later) (in_parts (f d) (flat_map f list) t i)
  where
    by_part : (IsIn (flat_map f list) t → (e : Derivation) × IsIn list e × IsIn (f e) t) → IsIn (f d) t ⊎ IsIn (flat_map f list) t → (e : Derivation) × IsIn (d ∷ list) e × IsIn (f e) t
    by_part rest (inl here) = (d, inl refl, here)
    by_part rest (inr later) = let more = rest later in (more.0, inr more.1, more.2)

-- what tells the number of its derivation comes of one alone
once_flat : (f : Derivation → List Tie) (number : Tie → ℕ) (list : List Derivation) → ArePairs (λ (a b : Derivation). a.id < b.id) list →
    ((d : Derivation) (t : Tie) → IsIn (f d) t → number t ≡ d.id) → ((d : Derivation) → AreOnce (f d)) → AreOnce (flat_map f list)
once_flat f number [] rising tells each = tt
once_flat f number (d ∷ list) rising tells each = once_append (f d) (flat_map f list) (each d) (once_flat f number list rising.1 tells each) apart
  where
    apart : (t : Tie) → IsIn (f d) t → IsIn (flat_map f list) t → ⊥
    apart t i j =
        let other = from_flat f list t j in
        let one = tells d t i in
        let two = tells other.0 t other.2 in
        let less = all_at (λ (e : Derivation). d.id < e.id) list other.0 rising.0 other.1 in
        omega (arith, one, two, less)

is_some_of : (o : Option Tie) (t : Tie) → IsIn (option_to_list o) t → o ≡ Some t
is_some_of None t i = absurd i
is_some_of (Some x) t (inl same) = ap Some same
is_some_of (Some x) t (inr later) = absurd later

once_some : (o : Option Tie) → AreOnce (option_to_list o)
once_some None = tt
once_some (Some t) = (λ there. absurd (let less = there.1 in omega (arith, less)), tt)

-- PAIRS

abbrev first_in : Cause → ℕ
first_in (cause.Frames one other) = one
first_in other = 0

abbrev second_in : Cause → ℕ
second_in (cause.Frames one other) = other
second_in other = 0

abbrev first_of : Tie → ℕ
first_of t = first_in t.cause

abbrev second_of : Tie → ℕ
second_of t = second_in t.cause

abbrev pair : Derivation → Derivation → Tie
pair d e = weak d.pd e.pd (cause.Frames d.id e.id)

module _ (list : List Derivation) (rising : ArePairs (λ (a b : Derivation). a.id < b.id) list) where
  module _ (d : Derivation) (o : Derivation → Option Tie) (are : (e : Derivation) (t : Tie) → o e ≡ Some t → t ≡ pair d e) where
    firsts : AllByRecursion (λ (t : Tie). first_of t ≡ d.id) (flat_map (λ (e : Derivation). option_to_list (o e)) list)
    firsts = all_flat (λ (t : Tie). first_of t ≡ d.id) (λ (e : Derivation). option_to_list (o e)) list
        (λ e i. all_some (λ (t : Tie). first_of t ≡ d.id) (o e) (λ t is. ap first_of (are e t is)))

    once : AreOnce (flat_map (λ (e : Derivation). option_to_list (o e)) list)
    once = once_flat (λ (e : Derivation). option_to_list (o e)) second_of list rising (λ e t i. ap second_of (are e t (is_some_of (o e) t i))) (λ e. once_some (o e))

  pair_if : (d e : Derivation) (t : Tie) (b : Bool) → (if b then Some (pair d e) else None) ≡ Some t → t ≡ pair d e
  pair_if d e t true is = sym (same_Some (pair d e) t is)
  pair_if d e t false is = absurd (cc)

  module _ (flows : ℕ → ℕ → Bool) (d : Derivation) where
    overlap_is : (e : Derivation) (t : Tie) (s : Kind) → overlaps_by true flows s d e ≡ Some t → t ≡ pair d e
    overlap_is e t Obj is = absurd (cc)
    overlap_is e t Mem is = pair_if d e t (meets d e && flows d.pd e.pd) is

    flow_first : (s : Kind) → AllByRecursion (λ (t : Tie). first_of t ≡ d.id) (flowing_of_kind flows list d s)
    flow_first Obj = tt
    flow_first Mem = by_right (allows d.rights write_right)
      where
        by_right : (b : Bool) → AllByRecursion (λ (t : Tie). first_of t ≡ d.id) (overlaps_all true flows list d b)
        by_right true = firsts d (λ (e : Derivation). overlaps true flows d e) (λ e t is. overlap_is e t e.kind is)
        by_right false = tt

    flow_once : (s : Kind) → AreOnce (flowing_of_kind flows list d s)
    flow_once Obj = tt
    flow_once Mem = by_right (allows d.rights write_right)
      where
        by_right : (b : Bool) → AreOnce (overlaps_all true flows list d b)
        by_right true = once d (λ (e : Derivation). overlaps true flows d e) (λ e t is. overlap_is e t e.kind is)
        by_right false = tt

  module _ (label : ℕ → ℕ) (d : Derivation) where
    abbrev reads : Bool → List Tie
    reads b = if b then flat_map (λ (e : Derivation). option_to_list (both_read label d e)) list else []

    read_first : (b : Bool) → AllByRecursion (λ (t : Tie). first_of t ≡ d.id) (reads b)
    read_first true = firsts d (λ (e : Derivation). both_read label d e) (λ e t is. pair_if d e t (are_read label d e) is)
    read_first false = tt

    read_once : (b : Bool) → AreOnce (reads b)
    read_once true = once d (λ (e : Derivation). both_read label d e) (λ e t is. pair_if d e t (are_read label d e) is)
    read_once false = tt

pub flows_once : (flows : ℕ → ℕ → Bool) (scenario : Scenario) (turns : List ℕ) (label : ℕ → ℕ) → AreOnce (flowing (flows_by flows label) (run (boot scenario) turns))
unfolding flowing
flows_once flows scenario turns label =
    let list = (run (boot scenario) turns).delegations.list in
    let rising = (boot_run_forest scenario turns).rising in
    once_flat (flowing_by (flows_by flows label) list) first_of list rising
    (λ d t i. all_at (λ (x : Tie). first_of x ≡ d.id) (flowing_by (flows_by flows label) list d) t (flow_first list rising (flows_by flows label) d d.kind) i)
    (λ d. flow_once list rising (flows_by flows label) d d.kind)

pub reads_once : (scenario : Scenario) (turns : List ℕ) (label : ℕ → ℕ) → AreOnce (reading label (run (boot scenario) turns))
unfolding reading
reads_once scenario turns label =
    let list = (run (boot scenario) turns).delegations.list in
    let rising = (boot_run_forest scenario turns).rising in
    once_flat (reading_by label list) first_of list rising
    (λ d t i. all_at (λ (x : Tie). first_of x ≡ d.id) (reading_by label list d) t (read_first list rising label d (is_read label d)) i)
    (λ d. read_once list rising label d (is_read label d))
