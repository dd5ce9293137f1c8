-- The derivation that is given next, among derivations of a sound forest.
use Rattle.std.proofs.Common.{◌≡◌, ℕ, ◌<◌, ◌≤◌, ◌+◌, ◌^◌, List, ap, sym, ◌∙◌, inl, inr, arith}
use Rattle.std.specs.Prelude.{true, ◌⊎◌, nat_lt, nat_le, max, filter, Option, Some, None}
use Rattle.std.proofs.lemmas.Bool.{and_from, and_parts, le-leb, leb-true, ltb-true, lt-ltb, cases_lt}
use Rattle.std.proofs.lemmas.Nat.{pow_pos}
use Rattle.nova_range.specs.Ranges.{end_of}
use Rattle.nova_range.specs.declared.range.Kind.{Kind}
use Rattle.nova_model.specs.Delegations.{Delegations, range_of, base_of, least_by, holds_from, first_from}
use Rattle.nova_model.specs.Forest.{AreApart, IsForest}
use Rattle.nova_model.specs.Transfers.{is_left, next_source}
use Rattle.nova_model.specs.declared.delegation.Derivation.{Derivation}
use Rattle.nova_model.specs.declared.transfer.Job.{Job}
use Rattle.law_forest.proofs.Members.{IsIn, filtered_in, in_filtered}
use Rattle.law_forest.proofs.Transfers.{IsLeft, left_facts}
use Rattle.nova_nodes.proofs.Found.{pairs_at, least_only}
use Rattle.nova_nodes.proofs.Indexed.{in_space, passes_space}
use Rattle.nova_delegate.specs.Parts.{is_ahead, first_ahead}
use Rattle.nova_delegate.proofs.Least.{none_filtered, least_facts, none_least}

-- it lies in this space of a protection domain
pub record IsOf (space : Kind) (domain : ℕ) (d : Derivation) : Type 0 where
  pub kind : d.kind ≡ space
  pub pd : d.pd ≡ domain

-- what the search by rising base gives
pub record IsFrom (list : List Derivation) (kind : Kind) (pd place : ℕ) (d : Derivation) : Type 0 where
  pub there : IsIn list d
  pub of : IsOf kind pd d
  pub holds : place < end_of (range_of d)
  pub least : (a : Derivation) → IsIn list a → IsOf kind pd a → place < end_of (range_of a) → d.base ≤ a.base

in_search : (kind : Kind) (pd place : ℕ) (a : Derivation) → IsOf kind pd a → place < end_of (range_of a) → holds_from kind pd place a ≡ true
in_search kind pd place a of h =
    passes_space pd kind (nat_lt place (end_of (range_of a))) a of.pd of.kind (lt-ltb _ _ h)

pub from_facts : (list : List Derivation) (kind : Kind) (pd place : ℕ) (d : Derivation) → first_from list kind pd place ≡ Some d → IsFrom list kind pd place d
from_facts list kind pd place d is =
    let low = least_facts base_of (filter (holds_from kind pd place) list) d is in
    let k = filtered_in (holds_from kind pd place) list d low.there in
    let s = in_space pd kind (nat_lt place (end_of (range_of d))) d k.1 in
    record {
      there = k.0;
      of = record { kind = s.space; pd = s.domain };
      holds = ltb-true _ _ s.passes;
      least = λ e i of h. low.least e (in_filtered (holds_from kind pd place) list e i (in_search kind pd place e of h));
    }

pub none_from : (list : List Derivation) (kind : Kind) (pd place : ℕ) → first_from list kind pd place ≡ None → (a : Derivation) → IsIn list a → IsOf kind pd a → place < end_of (range_of a) → ⊥
none_from list kind pd place none a i of h =
    none_least base_of (filter (holds_from kind pd place) list) a none (in_filtered (holds_from kind pd place) list a i (in_search kind pd place a of h))

-- WHAT IS LEFT

pub left_from : (j : Job) (d : Derivation) → IsLeft j d → is_left j d ≡ true
left_from j d l =
    passes_space j.giver j.kind _ d l.giver l.kind (and_from (nat_le j.cursor d.base) _ (le-leb j.cursor d.base l.at_cursor)
    (and_from (nat_lt d.base (j.source + 2 ^ j.order)) (nat_lt j.source (d.base + 2 ^ d.order)) (lt-ltb _ _ l.first) (lt-ltb _ _ l.second)))

-- no two of a space share a place
beside : (f : Delegations) → IsForest f → (kind : Kind) (pd : ℕ) (a b : Derivation) → IsIn f.list a → IsIn f.list b → IsOf kind pd a → IsOf kind pd b →
    a.base < b.base + 2 ^ b.order → b.base < a.base + 2 ^ a.order → a ≡ b
beside f forest kind pd a b i j of also first second = by_pair (pairs_at (λ a b. a.pd ≡ b.pd → a.kind ≡ b.kind → AreApart a b) f.list a b forest.apart i j)
  where
    by_pair : (a ≡ b) ⊎ ((a.pd ≡ b.pd → a.kind ≡ b.kind → AreApart a b) ⊎ (b.pd ≡ a.pd → b.kind ≡ a.kind → AreApart b a)) → a ≡ b
    by_pair (inl e) = e
    by_pair (inr (inl h)) = let off = h (of.pd ∙ sym also.pd) (of.kind ∙ sym also.kind) in absurd (grind (arith, off, first, second))
    by_pair (inr (inr h)) = let off = h (also.pd ∙ sym of.pd) (also.kind ∙ sym of.kind) in absurd (grind (arith, off, first, second))

-- AHEAD OF THE CURSOR

record IsAhead (j : Job) (d : Derivation) : Type 0 where
  of : IsOf j.kind j.giver d
  at_cursor : j.cursor ≤ d.base
  after : j.source < end_of (range_of d)

ahead_facts : (j : Job) (d : Derivation) → is_ahead j d ≡ true → IsAhead j d
ahead_facts j d h =
    let s = in_space j.giver j.kind _ d h in
    let c = and_parts (nat_le j.cursor d.base) (nat_lt j.source (end_of (range_of d))) s.passes in
    record {
      of = record { kind = s.space; pd = s.domain };
      at_cursor = leb-true j.cursor d.base c.0;
      after = ltb-true _ _ c.1;
    }

ahead_from : (j : Job) (d : Derivation) → IsAhead j d → is_ahead j d ≡ true
ahead_from j d l =
    passes_space j.giver j.kind _ d l.of.pd l.of.kind (and_from (nat_le j.cursor d.base) _ (le-leb j.cursor d.base l.at_cursor) (lt-ltb _ _ l.after))

record IsFirst (j : Job) (list : List Derivation) (d : Derivation) : Type 0 where
  there : IsIn list d
  ahead : IsAhead j d
  least : (a : Derivation) → IsIn list a → IsAhead j a → d.base ≤ a.base

first_facts : (j : Job) (list : List Derivation) (d : Derivation) → first_ahead list j ≡ Some d → IsFirst j list d
first_facts j list d is =
    let low = least_facts base_of (filter (is_ahead j) list) d is in
    let k = filtered_in (is_ahead j) list d low.there in
    record { there = k.0; ahead = ahead_facts j d k.1; least = λ a i h. low.least a (in_filtered (is_ahead j) list a i (ahead_from j a h)) }

first_is : (j : Job) (f : Delegations) → IsForest f → (d : Derivation) → IsFirst j f.list d → first_ahead f.list j ≡ Some d
first_is j f forest d first =
    least_only base_of (filter (is_ahead j) f.list) d (in_filtered (is_ahead j) f.list d first.there (ahead_from j d first.ahead))
    (λ a i. let k = filtered_in (is_ahead j) f.list a i in first.least a k.0 (ahead_facts j a k.1))
    (λ a i same.
    let k = filtered_in (is_ahead j) f.list a i in
    let some = pow_pos a.order in
    let more = pow_pos d.order in
    beside f forest j.kind j.giver a d k.0 first.there (ahead_facts j a k.1).of first.ahead.of (omega arith) (omega arith))

none_is : (j : Job) (list : List Derivation) → ((a : Derivation) → IsIn list a → IsAhead j a → ⊥) → first_ahead list j ≡ None
none_is j list none = ap (least_by base_of) (none_filtered (is_ahead j) list (λ a i h. none a i (ahead_facts j a h)))

-- a derivation that is ahead ends after where the search begins
in_reach : (j : Job) (a : Derivation) → IsAhead j a → max j.cursor j.source < end_of (range_of a)
in_reach j a l = let c = l.at_cursor in let s = l.after in let some = pow_pos a.order in omega arith

-- the search as it is made
pub searched : (j : Job) (list : List Derivation) (place from : ℕ) (found o : Option Derivation) → place ≡ from → found ≡ first_from list j.kind j.giver place → found ≡ o → first_from list j.kind j.giver from ≡ o
searched j list place from found o at is was = ap (first_from list j.kind j.giver) (sym at) ∙ sym is ∙ was

pub first_found : (j : Job) (f : Delegations) → IsForest f → (d : Derivation) → first_from f.list j.kind j.giver (max j.cursor j.source) ≡ Some d → j.cursor ≤ d.base → first_ahead f.list j ≡ Some d
first_found j f forest d is at =
    let next = from_facts f.list j.kind j.giver (max j.cursor j.source) d is in
    first_is j f forest d (record {
      there = next.there;
      ahead = record { of = next.of; at_cursor = at; after = (let h = next.holds in omega arith) };
      least = λ a i l. next.least a i l.of (in_reach j a l);
    })

pub first_none : (j : Job) (f : Delegations) → first_from f.list j.kind j.giver (max j.cursor j.source) ≡ None → first_ahead f.list j ≡ None
first_none j f none = none_is j f.list (λ a i l. none_from f.list j.kind j.giver (max j.cursor j.source) none a i l.of (in_reach j a l))

-- what is ahead begins after a derivation that covers the cursor
past_first : (j : Job) (f : Delegations) → IsForest f → (d : Derivation) → IsFrom f.list j.kind j.giver (max j.cursor j.source) d → d.base < j.cursor →
    (a : Derivation) → IsIn f.list a → IsOf j.kind j.giver a → d.base < a.base → end_of (range_of d) ≤ a.base
past_first j f forest d next before a i of from = by_case (cases_lt a.base (end_of (range_of d)))
  where
    by_case : (a.base < end_of (range_of d)) ⊎ (end_of (range_of d) ≤ a.base) → end_of (range_of d) ≤ a.base
    by_case (inr h) = h
    by_case (inl h) =
        let some = pow_pos a.order in
        let same = ap base_of (beside f forest j.kind j.giver d a next.there i next.of of (omega arith) h) in
        absurd (omega arith)

pub second_found : (j : Job) (f : Delegations) → IsForest f → (d : Derivation) → first_from f.list j.kind j.giver (max j.cursor j.source) ≡ Some d → d.base < j.cursor →
    (o : Option Derivation) → first_from f.list j.kind j.giver (end_of (range_of d)) ≡ o → first_ahead f.list j ≡ o
second_found j f forest d is before = by_second
  where
    next : IsFrom f.list j.kind j.giver (max j.cursor j.source) d
    next = from_facts f.list j.kind j.giver (max j.cursor j.source) d is

    past : (a : Derivation) → IsIn f.list a → IsAhead j a → end_of (range_of d) < end_of (range_of a)
    past a i l =
        let at = l.at_cursor in
        let after = past_first j f forest d next before a i l.of (omega arith) in
        let some = pow_pos a.order in
        omega arith

    reached : (e : Derivation) → IsFrom f.list j.kind j.giver (end_of (range_of d)) e → end_of (range_of d) ≤ e.base
    reached e later = by_case (cases_lt e.base (end_of (range_of d)))
      where
        by_case : (e.base < end_of (range_of d)) ⊎ (end_of (range_of d) ≤ e.base) → end_of (range_of d) ≤ e.base
        by_case (inr h) = h
        by_case (inl h) =
            let ends = later.holds in
            let holds = next.holds in
            let least = next.least e later.there later.of (omega arith) in
            let same = ap (λ (x : Derivation). end_of (range_of x)) (beside f forest j.kind j.giver d e next.there later.there next.of later.of (omega arith) h) in
            absurd (omega arith)

    by_second : (o : Option Derivation) → first_from f.list j.kind j.giver (end_of (range_of d)) ≡ o → first_ahead f.list j ≡ o
    by_second None none = none_is j f.list (λ a i l. none_from f.list j.kind j.giver (end_of (range_of d)) none a i l.of (past a i l))
    by_second (Some e) also =
        let later = from_facts f.list j.kind j.giver (end_of (range_of d)) e also in
        let from = reached e later in
        let holds = next.holds in
        let ends = later.holds in
        first_is j f forest e (record {
          there = later.there;
          ahead = record { of = later.of; at_cursor = omega arith; after = omega arith };
          least = λ a i l. later.least a i l.of (past a i l);
        })

-- THE NEXT

ahead_left : (j : Job) (a : Derivation) → IsLeft j a → IsAhead j a
ahead_left j a l = record { of = record { kind = l.kind; pd = l.giver }; at_cursor = l.at_cursor; after = l.second }

pub next_none : (j : Job) (list : List Derivation) → first_ahead list j ≡ None → next_source list j ≡ None
next_none j list none = ap (least_by base_of) (none_filtered (is_left j) list (λ a i h.
    none_least base_of (filter (is_ahead j) list) a none (in_filtered (is_ahead j) list a i (ahead_from j a (ahead_left j a (left_facts j a h))))))

pub next_past : (j : Job) (list : List Derivation) (d : Derivation) → first_ahead list j ≡ Some d → j.source + 2 ^ j.order ≤ d.base → next_source list j ≡ None
next_past j list d is past =
    let first = first_facts j list d is in
    ap (least_by base_of) (none_filtered (is_left j) list (λ a i h.
    let l = left_facts j a h in
    let low = first.least a i (ahead_left j a l) in
    let begins = l.first in
    omega arith))

pub next_found : (j : Job) (f : Delegations) → IsForest f → (d : Derivation) → first_ahead f.list j ≡ Some d → d.base < j.source + 2 ^ j.order → next_source f.list j ≡ Some d
next_found j f forest d is before =
    let first = first_facts j f.list d is in
    let left : IsLeft j d = record { kind = first.ahead.of.kind; giver = first.ahead.of.pd; at_cursor = first.ahead.at_cursor; first = before; second = first.ahead.after } in
    least_only base_of (filter (is_left j) f.list) d (in_filtered (is_left j) f.list d first.there (left_from j d left))
    (λ a i. let k = filtered_in (is_left j) f.list a i in first.least a k.0 (ahead_left j a (left_facts j a k.1)))
    (λ a i same.
    let k = filtered_in (is_left j) f.list a i in
    let some = pow_pos a.order in
    let more = pow_pos d.order in
    beside f forest j.kind j.giver a d k.0 first.there (ahead_left j a (left_facts j a k.1)).of first.ahead.of (omega arith) (omega arith))
