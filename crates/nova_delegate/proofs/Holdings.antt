-- Whether a place of a range is held: the first derivation that ends after the range's first place begins before the range ends.
use Rattle.std.proofs.Common.{◌≡◌, ℕ, ◌<◌, List, refl, arith}
use Rattle.std.specs.Prelude.{Bool, true, false, nat_lt, Some, None}
use Rattle.std.proofs.lemmas.Bool.{and_from, and_parts, ltb-true, lt-ltb, false_from_ne_true}
use Rattle.nova_range.specs.Ranges.{end_of, overlaps}
use Rattle.nova_range.specs.declared.range.Range.{Range}
use Rattle.nova_model.specs.Delegations.{range_of, meets, is_held_in, first_from}
use Rattle.nova_model.specs.declared.delegation.Derivation.{Derivation}
use Rattle.nova_nodes.proofs.Indexed.{in_space, passes_space}
use Rattle.law_forest.proofs.Extremes.{any_in, any_from}
use Rattle.nova_delegate.proofs.Sources.{IsOf, IsFrom, from_facts, none_from}

record IsMeeting (pd : ℕ) (range : Range) (a : Derivation) : Type 0 where
  of : IsOf range.kind pd a
  first : a.base < end_of range
  second : range.base < end_of (range_of a)

meeting : (pd : ℕ) (range : Range) (a : Derivation) → meets pd range a ≡ true → IsMeeting pd range a
meeting pd range a h =
    let s = in_space pd range.kind (overlaps (range_of a) range) a h in
    let t = and_parts (nat_lt a.base (end_of range)) (nat_lt range.base (end_of (range_of a))) s.passes in
    record { of = record { kind = s.space; pd = s.domain }; first = ltb-true _ _ t.0; second = ltb-true _ _ t.1 }

from_meeting : (pd : ℕ) (range : Range) (a : Derivation) → IsMeeting pd range a → meets pd range a ≡ true
from_meeting pd range a m =
    passes_space pd range.kind (overlaps (range_of a) range) a m.of.pd m.of.kind
    (and_from (nat_lt a.base (end_of range)) (nat_lt range.base (end_of (range_of a))) (lt-ltb _ _ m.first) (lt-ltb _ _ m.second))

pub held_from : (list : List Derivation) (pd : ℕ) (range : Range) (d : Derivation) → first_from list range.kind pd range.base ≡ Some d →
    nat_lt d.base (end_of range) ≡ is_held_in list pd range
held_from list pd range d is = by_test (nat_lt d.base (end_of range)) refl (is_held_in list pd range) refl
  where
    next : IsFrom list range.kind pd range.base d
    next = from_facts list range.kind pd range.base d is

    by_test : (b : Bool) → nat_lt d.base (end_of range) ≡ b → (h : Bool) → is_held_in list pd range ≡ h → b ≡ h
    by_test true bs true hs = refl
    by_test false bs false hs = refl
    by_test true bs false hs =
        let on = any_from (meets pd range) list d next.there (from_meeting pd range d (record { of = next.of; first = ltb-true _ _ bs; second = next.holds })) in
        absurd (cc)
    by_test false bs true hs =
        let a = any_in (meets pd range) list hs in
        let m = meeting pd range a.0 a.2 in
        let least = next.least a.0 a.1 m.of m.second in
        let first = m.first in
        absurd (grind (arith, bs, least, first))

pub held_none : (list : List Derivation) (pd : ℕ) (range : Range) → first_from list range.kind pd range.base ≡ None → is_held_in list pd range ≡ false
held_none list pd range none = false_from_ne_true (is_held_in list pd range) (λ t.
    let a = any_in (meets pd range) list t in
    let m = meeting pd range a.0 a.2 in
    none_from list range.kind pd range.base none a.0 a.1 m.of m.second)
