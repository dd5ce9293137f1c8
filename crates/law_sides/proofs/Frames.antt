-- Ranges of memory that have a frame in common.
use Rattle.std.proofs.Common.{◌≡◌, ◌+◌, ◌^◌, ℕ, inl, inr, arith}
use Rattle.std.specs.Prelude.{true, nat_le, nat_lt}
use Rattle.std.proofs.lemmas.Bool.{and_from, and_parts, cases_lt, le-leb, leb-true, lt-ltb, ltb-true, or_cases, or_left, or_right}
use Rattle.std.proofs.lemmas.Nat.{pow_pos}
use Rattle.nova_model.specs.declared.delegation.Derivation.{Derivation}
use Rattle.law_forest.specs.Within.{LeadsTo}
use Rattle.law_sides.specs.Tied.{leads_to, meets}

leads_from : (d : Derivation) (frame : ℕ) → leads_to d frame ≡ true → LeadsTo d frame
leads_from d frame is =
    let parts = and_parts (nat_le d.target frame) (nat_lt frame (d.target + 2 ^ d.order)) is in
    record { first = leb-true d.target frame parts.0; last = ltb-true frame (d.target + 2 ^ d.order) parts.1 }

pub leads_first : (d : Derivation) → LeadsTo d d.target
leads_first d = let some = pow_pos d.order in record { first = omega arith; last = omega (arith, some) }

-- a frame of both
pub meets_frame : (d e : Derivation) → meets d e ≡ true → (frame : ℕ) × LeadsTo d frame × LeadsTo e frame
meets_frame d e is = elim (or_cases (leads_to d e.target) (leads_to e d.target) is) [
  | inl first ↦ (e.target, leads_from d e.target first, leads_first e)
  | inr second ↦ (d.target, leads_first d, leads_from e d.target second)
]

pub frame_meets : (d e : Derivation) (frame : ℕ) → LeadsTo d frame → LeadsTo e frame → meets d e ≡ true
frame_meets d e frame a b = elim (cases_lt e.target d.target) [
  | inl after ↦ or_right (leads_to d e.target) (leads_to e d.target)
      (and_from (nat_le e.target d.target) (nat_lt d.target (e.target + 2 ^ e.order)) (le-leb e.target d.target (omega (arith, after)))
      (lt-ltb d.target (e.target + 2 ^ e.order) (let low = a.first in let high = b.last in omega (arith, low, high))))
  | inr before ↦ or_left (leads_to d e.target) (leads_to e d.target)
      (and_from (nat_le d.target e.target) (nat_lt e.target (d.target + 2 ^ d.order)) (le-leb d.target e.target before)
      (lt-ltb e.target (d.target + 2 ^ d.order) (let low = b.first in let high = a.last in omega (arith, low, high))))
]
