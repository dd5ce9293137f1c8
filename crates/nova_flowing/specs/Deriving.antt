-- Whether others hold what was made of what a side holds, in one state: where they don't, the side may revoke.
use Rattle.std.specs.Prelude.{◌≡◌, ℕ, ◌&&◌, Bool, true, false, not, Contains, List, Option, Some, None}
use Rattle.std.specs.List.{list_any}
use Rattle.nova_model.specs.Lines.{line}
use Rattle.nova_model.specs.State.{KernelState}
use Rattle.nova_model.specs.declared.delegation.Derivation.{Derivation}
use Rattle.law_integrity.specs.Confined.{Of}
use Rattle.law_flow.specs.Flow.{DerivesWithin}
use Rattle.nova_flowing.specs.Leaks.{at_cap, first_some, when}
use Rattle.nova_flowing.specs.declared.leak.Field.TheVariants as field
use Rattle.nova_flowing.specs.declared.leak.Leak.{Leak}

-- none of these domains holds it, and it comes of what one of them holds
abbrev pub is_made_of : List Derivation → (ℕ → Bool) → Derivation → Bool
is_made_of list S d = not (S d.pd) && list_any (λ (a : Derivation). S a.pd) (line list d)

abbrev pub made_by : List Derivation → (ℕ → Bool) → Derivation → Option Leak
made_by list S d = when (is_made_of list S d) field.Derives (at_cap d)

-- the first such
abbrev pub first_made : List Derivation → (ℕ → Bool) → Option Leak
first_made list S = first_some (made_by list S) list

-- such a one, by which the law's condition doesn't hold
pub record IsMade (k : KernelState) (S : ℕ → Bool) (l : Leak) : Type 0 where
  pub derivation : Derivation
  pub there : Contains k.delegations.list derivation
  pub without : S derivation.pd ≡ false
  pub ancestor : Derivation
  pub of : Contains (line k.delegations.list derivation) ancestor
  pub within : S ancestor.pd ≡ true
  pub leak : l ≡ record { field = field.Derives; place = at_cap derivation }
  pub fails : DerivesWithin k (Of S) → ⊥

-- THE ANSWER: the law's condition holds; or it doesn't, by this one
abbrev pub IsDerivingTold : KernelState → (ℕ → Bool) → Option Leak → Type 0
IsDerivingTold k S None = DerivesWithin k (Of S)
IsDerivingTold k S (Some l) = IsMade k S l
