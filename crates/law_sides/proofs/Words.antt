-- A tie that labels respect, in the words of isolation.
use Rattle.std.proofs.Common.{◌≡◌, ◌≢◌, ◌⊎◌, ℕ, refl, sym, ap, ◌∙◌, inl, inr}
use Rattle.std.specs.Prelude.{Bool, true, false, slice_get, Option, Some, None}
use Rattle.std.proofs.lemmas.Bool.{eq-eqb, eqb-true}
use Rattle.nova_objects.specs.declared.object.Object.{Object}
use Rattle.nova_objects.specs.declared.object.Object.TheVariants.{Pd, Ec, Sc, Pt, Sm}
use Rattle.nova_model.specs.State.{KernelState, context_in}
use Rattle.nova_model.specs.declared.context.EcState.{EcState}
use Rattle.nova_model.specs.declared.context.State.{State}
use Rattle.nova_model.specs.declared.context.State.TheVariants.{Blocked}
use Rattle.nova_model.specs.declared.delegation.Derivation.{Derivation}
use Rattle.law_turns.specs.Tables.{cpu_of}
use Rattle.law_integrity.specs.Trusted.{OrTrusted}
use Rattle.law_integrity.proofs.Labels.{IsEc}
use Rattle.nova_ties.specs.Ties.{Respects}
use Rattle.nova_ties.specs.declared.tie.Cause.{Cause}
use Rattle.law_sides.specs.Isolated.{commands}
use Rattle.law_sides.specs.Tied.{is_at, leads, strict, weak}

pub weak_from : (label : ℕ → ℕ) (from to : ℕ) (why : Cause) → (label from ≢ 0 → OrTrusted label (label from) to) → Respects label (weak from to why)
weak_from label from to why h some = elim (h some) [
  | inl same ↦ inl same
  | inr none ↦ inr (refl, none)
]

pub weak_to : (label : ℕ → ℕ) (from to : ℕ) (why : Cause) → Respects label (weak from to why) → label from ≢ 0 → OrTrusted label (label from) to
weak_to label from to why r some = elim (r some) [
  | inl same ↦ inl same
  | inr both ↦ inr both.1
]

pub strict_from : (label : ℕ → ℕ) (from to : ℕ) (why : Cause) → (label from ≢ 0 → label to ≡ label from) → Respects label (strict from to why)
strict_from label from to why h some = inl (h some)

pub strict_to : (label : ℕ → ℕ) (from to : ℕ) (why : Cause) → Respects label (strict from to why) → label from ≢ 0 → label to ≡ label from
strict_to label from to why r some = elim (r some) [
  | inl same ↦ same
  | inr both ↦ absurd (let no : true ≡ false = both.0 in cc)
]

-- by rights that command the object, or by none
pub leads_respected : (label : ℕ → ℕ) (d : Derivation) (to : ℕ) (o : Object) (why : Cause) → (label d.pd ≢ 0 → OrTrusted label (label d.pd) to) → (label d.pd ≢ 0 → commands d.rights o ≡ true → label to ≡ label d.pd) →
    Respects label (leads d to o why)
leads_respected label d to o why may own some = by_test (commands d.rights o) refl
  where
    by_test : (t : Bool) → commands d.rights o ≡ t → (label to ≡ label d.pd) ⊎ ((commands d.rights o ≡ false) × (label to ≡ 0))
    by_test true is = inl (own some is)
    by_test false is = elim (may some) [
      | inl same ↦ inl same
      | inr none ↦ inr (is, none)
    ]

pub leads_may : (label : ℕ → ℕ) (d : Derivation) (to : ℕ) (o : Object) (why : Cause) → Respects label (leads d to o why) → label d.pd ≢ 0 → OrTrusted label (label d.pd) to
leads_may label d to o why r some = elim (r some) [
  | inl same ↦ inl same
  | inr both ↦ inr both.1
]

pub leads_own : (label : ℕ → ℕ) (d : Derivation) (to : ℕ) (o : Object) (why : Cause) → Respects label (leads d to o why) → label d.pd ≢ 0 → commands d.rights o ≡ true → label to ≡ label d.pd
leads_own label d to o why r some is = elim (r some) [
  | inl same ↦ same
  | inr both ↦ absurd (let off = both.0 in let no : true ≡ false = sym is ∙ off in cc)
]

-- the donor of a scheduling context is an execution context
pub donor_ec : (k : KernelState) (n cpu : ℕ) → cpu_of (slice_get k.objects n) ≡ Some cpu → IsEc k n
donor_ec k n cpu is = by_object (slice_get k.objects n) refl is
  where
    by_object : (o : Option Object) → slice_get k.objects n ≡ o → cpu_of o ≡ Some cpu → IsEc k n
    by_object (Some (Ec pd its kind event)) at h = record { domain = pd; cpu = its; kind = kind; event = event; object = at; of = tt }
    by_object None at h = absurd (cc)
    by_object (Some Pd) at h = absurd (cc)
    by_object (Some (Sc e its priority quantum)) at h = absurd (cc)
    by_object (Some (Pt e mtd ip)) at h = absurd (cc)
    by_object (Some Sm) at h = absurd (cc)

-- the state of a context that is there
pub state_at : (o : Option EcState) (x : EcState) → o ≡ Some x → (context_in o).state ≡ x.state
state_at o x is = ap (λ (p : Option EcState). (context_in p).state) is

pub at_sm : (sm : ℕ) (s : State) → is_at sm s ≡ true → s ≡ Blocked sm
at_sm sm (Blocked other) is = ap (λ (n : ℕ). Blocked n) (eqb-true other sm is)
at_sm sm other is = absurd (cc)

pub sm_at : (sm : ℕ) (s : State) → s ≡ Blocked sm → is_at sm s ≡ true
sm_at sm s is = ap (is_at sm) is ∙ eq-eqb sm sm refl
