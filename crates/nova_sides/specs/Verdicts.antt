-- What an answer says of labels in a state.
use Rattle.std.specs.Prelude.{◌≡◌, ◌≢◌, ℕ, Bool, Contains, false, find, slice_get, Some}
use Rattle.nova_objects.specs.declared.object.Object.TheVariants.{Pd}
use Rattle.nova_range.specs.declared.range.Kind.TheVariants.{Obj}
use Rattle.nova_model.specs.State.{KernelState, context_at, pd_of}
use Rattle.nova_model.specs.declared.context.EcState.{EcState}
use Rattle.law_integrity.specs.Confined.{IsOwned}
use Rattle.nova_ties.specs.Ties.{Respects, is_broken}
use Rattle.nova_ties.specs.declared.tie.Tie.{Tie}
use Rattle.law_sides.specs.Resting.{IsAtRest, Sided, is_resting, is_sided}
use Rattle.law_sides.specs.Isolated.{AreIsolated}
use Rattle.law_sides.specs.Tied.{flows_by, ties}
use Rattle.nova_sides.specs.declared.judging.Restless.{Restless}
use Rattle.nova_sides.specs.declared.judging.Restless.TheVariants.{Astray, Leads, Stirs}
use Rattle.nova_sides.specs.declared.judging.Verdict.{Verdict}
use Rattle.nova_sides.specs.declared.judging.Verdict.TheVariants.{Apart, Served, Breach}

-- which part of rest doesn't hold: a number with a side is of no domain; a capability of a side leads to what is trusted; or an execution context of what is trusted isn't at rest
abbrev pub IsRestless : KernelState → (ℕ → ℕ) → Restless → Type 0
IsRestless k label (Astray n) = (label n ≢ 0) × (slice_get k.objects n ≢ Some Pd)
IsRestless k label (Leads d) = Contains k.delegations.list d × (d.kind ≡ Obj) × (label d.pd ≢ 0) × (IsOwned k (Sided label) d.target (slice_get k.objects d.target) → ⊥)
IsRestless k label (Stirs n) = (label (pd_of k n) ≡ 0) × ((x : EcState) × (context_at k n ≡ Some x) × (is_resting k (is_sided label) x ≡ false))

-- the first tie of the state that the labels don't respect, and so the sides aren't isolated
pub record IsBreach (shared : ℕ → Bool) (flows : ℕ → ℕ → Bool) (k : KernelState) (label : ℕ → ℕ) (t : Tie) : Type 0 where
  pub first : find (is_broken label) (ties shared (flows_by flows label) k) ≡ Some t
  pub there : Contains (ties shared (flows_by flows label) k) t
  pub broken : Respects label t → ⊥
  pub none : AreIsolated shared flows k label → ⊥

-- THE ANSWER: the sides are isolated, and what is trusted is at rest; or it isn't, for a cause that is real; or the sides aren't isolated
abbrev pub IsJudged : (ℕ → Bool) → (ℕ → ℕ → Bool) → KernelState → (ℕ → ℕ) → Verdict → Type 0
IsJudged shared flows k label Apart = AreIsolated shared flows k label × IsAtRest k label
IsJudged shared flows k label (Served why) = AreIsolated shared flows k label × (IsRestless k label why × (IsAtRest k label → ⊥))
IsJudged shared flows k label (Breach t) = IsBreach shared flows k label t
