-- What is told of memory that two sides reach: pairs of capabilities by which they do.
use Rattle.std.specs.Prelude.{◌≡◌, ◌≢◌, ◌≤◌, ℕ, Bool, true, false, List, [], ◌∷◌, Contains}
use Rattle.nova_range.specs.Rights.{allows, write_right}
use Rattle.nova_model.specs.State.{KernelState}
use Rattle.law_integrity.specs.Confined.{Reach, ReachAny}
use Rattle.law_integrity.specs.Trusted.{Labelled}
use Rattle.nova_ties.specs.declared.tie.Cause.TheVariants.{Frames}
use Rattle.nova_ties.specs.declared.tie.Tie.{Tie}
use Rattle.law_sides.specs.Tied.{weak}

-- the pair is of a capability by which the first domain may write a frame, and of one by which the second reaches it; and the first's side flows to the second's
pub record IsFlowing (flows : ℕ → ℕ → Bool) (k : KernelState) (label : ℕ → ℕ) (t : Tie) : Type 0 where
  pub frame : ℕ
  pub writes : Reach k (Labelled label (label t.from)) write_right frame
  pub reaches : ReachAny k (Labelled label (label t.to)) frame
  pub pair : t ≡ weak writes.derivation.pd reaches.derivation.pd (Frames writes.derivation.id reaches.derivation.id)
  pub flow : flows (label t.from) (label t.to) ≡ true

-- the pair is of capabilities by which the domains of two sides reach a frame, in the order of their numbers, and neither has the right to write
pub record IsRead (k : KernelState) (label : ℕ → ℕ) (t : Tie) : Type 0 where
  pub frame : ℕ
  pub one : ReachAny k (Labelled label (label t.from)) frame
  pub two : ReachAny k (Labelled label (label t.to)) frame
  pub pair : t ≡ weak one.derivation.pd two.derivation.pd (Frames one.derivation.id two.derivation.id)
  pub order : one.derivation.id ≤ two.derivation.id
  pub first : allows one.derivation.rights write_right ≡ false
  pub second : allows two.derivation.rights write_right ≡ false
  pub side : label t.from ≢ 0
  pub other : label t.to ≢ 0
  pub apart : label t.to ≢ label t.from

-- none of the pairs stands there twice
abbrev pub AreOnce : List Tie → Type 0
AreOnce [] = Unit {0}
AreOnce (t ∷ ts) = (Contains ts t → ⊥) × AreOnce ts
