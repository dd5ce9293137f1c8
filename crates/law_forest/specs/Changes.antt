-- How delegations change: by one derivation at a time.
use Rattle.std.specs.Prelude.{◌≡◌, ℕ, Contains, false, Option, Some, None}
use Rattle.nova_model.specs.Choice.{Candidate}
use Rattle.nova_model.specs.Delegations.{Delegations, added, without}
use Rattle.nova_model.specs.Forest.{IsFitting, IsChildless}
use Rattle.nova_model.specs.Revokes.{Revocation, busy, next_leaf, revoked}
use Rattle.nova_model.specs.declared.delegation.Derivation.{Derivation}

-- derivations stay as they are, or a derivation that fits joins, or one that is no parent goes
pub data Change (old new : Delegations) : Type 0 where
  Stays : new ≡ old → Change old new
  Joins : (d : Derivation) → IsFitting old d → new ≡ added old d → Change old new
  Goes : (d : Derivation) → Contains old.list d → IsChildless old.list d.id → new ≡ without old d.id → Change old new

-- The same while the revoke of an execution context runs, by the context that acts: they stay; or a derivation joins that fits and is not busy for
-- this revoke; or the runner acts and takes its next leaf; or another context acts and takes a derivation that is no parent.
pub data ChangeUnder (r : Revocation) (runner actor : ℕ) (old new : Delegations) : Type 0 where
  StaysUnder : new ≡ old → ChangeUnder r runner actor old new
  JoinsUnder : (d : Derivation) → IsFitting old d → busy r old.list d ≡ false → new ≡ added old d → ChangeUnder r runner actor old new
  TakesPart : runner ≡ actor → (leaf : Derivation) → next_leaf r old ≡ Some leaf → new ≡ revoked r old → ChangeUnder r runner actor old new
  GoesUnder : (runner ≡ actor → ⊥) → (d : Derivation) → Contains old.list d → IsChildless old.list d.id → new ≡ without old d.id → ChangeUnder r runner actor old new

-- the leaves that it takes for this revoke
abbrev pub leaves_in : {r : Revocation} → {runner actor : ℕ} → {old new : Delegations} → ChangeUnder r runner actor old new → ℕ
leaves_in (TakesPart same leaf next is) = 1
leaves_in other = 0

-- in a turn the chosen candidate acts; an idle processor leaves all
abbrev pub ChangesUnder : Revocation → ℕ → Option Candidate → Delegations → Delegations → Type 0
ChangesUnder r runner None old new = new ≡ old
ChangesUnder r runner (Some chosen) old new = ChangeUnder r runner chosen.actor old new
