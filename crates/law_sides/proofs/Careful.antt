-- What is trusted was careful in a turn if the sides are isolated after it: so careful turns are found by judging states.
use Rattle.std.proofs.Common.{◌≡◌, ◌≢◌, ◌⊎◌, ◌<◌, ◌++◌, ℕ, List, [], ◌∷◌, length, refl, sym, ap, ◌∙◌, subst, inl, inr}
use Rattle.std.specs.Prelude.{Bool, true, false, Contains, is_some, Option, Some, None}
use Rattle.std.proofs.lemmas.Bool.{cases_eq}
use Rattle.std.proofs.lemmas.Option.{slice_get_within}
use Rattle.nova_objects.specs.declared.object.Object.TheVariants.{Pd, Ec}
use Rattle.nova_range.specs.declared.range.Kind.TheVariants.{Obj}
use Rattle.nova_model.specs.Boot.{Scenario, boot}
use Rattle.nova_model.specs.Edges.{edge}
use Rattle.nova_model.specs.Runs.{after, run}
use Rattle.nova_model.specs.State.{KernelState, context, context_at, context_in, is_local_in, is_local_thread, pd_of}
use Rattle.nova_model.specs.declared.context.EcState.{EcState}
use Rattle.nova_model.specs.declared.context.Mark.{Mark}
use Rattle.nova_model.specs.declared.context.State.TheVariants.{Granting}
use Rattle.nova_model.specs.declared.delegation.Derivation.{Derivation}
use Rattle.law_origins.proofs.Lists.{run_append}
use Rattle.law_integrity.specs.Rights.{CallsAt, ExitsAt}
use Rattle.law_integrity.specs.Trusted.{IsWithinPolicy, MayHold, MayTakeTurn, MayTakeTurns, MayWait, labels_after}
use Rattle.law_integrity.proofs.Blocked.{Begins, TakesBy, Took}
use Rattle.law_integrity.proofs.Confining.{Child, Newest, Old, Whence, acting_one, object_kept, whence}
use Rattle.law_integrity.proofs.Edges.{edge_came, handler_local}
use Rattle.law_integrity.proofs.Homes.{receiver_there}
use Rattle.law_integrity.proofs.Labels.{IsEc, IsTaken, context_ec, label_kept, labels_old, local_ec, turn_taken}
use Rattle.law_sides.specs.Resting.{StayIsolated}

-- the handler of an edge after the turn was there before it
pub handler_there : (k : KernelState) (cpu ec handler : ℕ) → IsTaken k cpu → edge (after k cpu).contexts ec ≡ Some handler → IsEc k handler
handler_there k cpu ec handler t is = elim (edge_came k cpu ec handler t.rightful is) [
  | inl before ↦ local_ec k handler (t.local ec handler before)
  | inr now ↦ by_portal now.1
]
  where
    by_portal : CallsAt k ec handler ⊎ ExitsAt k ec handler → IsEc k handler
    by_portal (inl c) = local_ec k handler (handler_local k c.portal handler c.mtd c.ip t.fits.tables c.object)
    by_portal (inr c) = local_ec k handler (handler_local k c.portal handler c.mtd c.ip t.fits.tables c.object)

-- and so was a handler that takes items after it
taker_ec : (k : KernelState) (cpu handler caller : ℕ) (mark : Mark) → IsTaken k cpu → (context (after k cpu) handler).state ≡ Granting None → (context (after k cpu) handler).caller ≡ Some (caller, mark) →
    IsEc k handler
taker_ec k cpu handler caller mark t is keeps = by_came (t.taking handler caller mark is keeps)
  where
    there : (o : Option EcState) → (context_in o).state ≡ Granting None → is_some o ≡ true
    there None at = absurd (cc)
    there (Some x) at = refl

    by_came : TakesBy k cpu handler caller mark → IsEc k handler
    by_came (Took was serves) = context_ec k handler t.fits.tables (there (context_at k handler) was)
    by_came (Begins acts_ c) = local_ec k handler (handler_local k c.portal handler c.mtd c.ip t.fits.tables c.object)

-- who holds a derivation after a turn was there before it
holder_before : (k : KernelState) (cpu : ℕ) (d : Derivation) → IsTaken k cpu → Contains (after k cpu).delegations.list d → d.pd < length k.objects
holder_before k cpu d t there = by_whence (whence k cpu d t.sound.forest there)
  where
    by_whence : Whence k cpu d → d.pd < length k.objects
    by_whence (Old was) = slice_get_within k.objects d.pd Pd (t.homed.holders d was)
    by_whence (Newest ec acts_ o first objects) =
        let c = first.creator in
        subst (λ (n : ℕ). n < length k.objects) c.held (slice_get_within k.objects c.capability.pd Pd (t.homed.holders c.capability c.there))
    by_whence (Child ec acts_ source was within gives) =
        slice_get_within k.objects d.pd Pd (receiver_there k ec source.pd d.pd t.sound t.homed (acting_one k cpu ec acts_) gives)

pub careful_from : {shared : ℕ → Bool} (k : KernelState) (label : ℕ → ℕ) (cpu : ℕ) → IsTaken k cpu → IsWithinPolicy shared (after k cpu) (labels_after k label cpu) → MayTakeTurn shared k label cpu
careful_from {shared} k label cpu t policy ec acts_ trusted = record {
  gives = λ d there kind some. inr (held d there some kind);
  calls = λ handler is. called handler is (handler_there k cpu ec handler t is) (cases_eq (label (pd_of k handler)) 0);
  sends = λ handler mark is keeps. sent handler mark is keeps (cases_eq (label (pd_of k handler)) 0);
}
  where
    actor : IsEc k ec
    actor = context_ec k ec t.fits.tables (ap (λ (o : Option EcState). is_some o) (acting_one k cpu ec acts_).there)

    held : (d : Derivation) → Contains (after k cpu).delegations.list d → label d.pd ≢ 0 → d.kind ≡ Obj → MayHold shared (after k cpu) (labels_after k label cpu) (label d.pd) d.target
    held d there some kind =
        let its = labels_old k label cpu d.pd (holder_before k cpu d t there) in
        subst (λ (s : ℕ). MayHold shared (after k cpu) (labels_after k label cpu) s d.target) its (policy.capabilities d there kind (λ none. some (sym its ∙ none)))

    own : labels_after k label cpu (pd_of (after k cpu) ec) ≡ label (pd_of k ec)
    own = label_kept k label cpu ec t.fits.tables actor

    called : (handler : ℕ) → edge (after k cpu).contexts ec ≡ Some handler → IsEc k handler → (label (pd_of k handler) ≡ 0) ⊎ (label (pd_of k handler) ≢ 0) →
        (label (pd_of k handler) ≡ 0) ⊎ (is_local_thread k ec ≡ false)
    called handler is h (inl none) = inl none
    called handler is h (inr some) = by_waits (policy.edges ec handler is (λ none. some (sym its ∙ none)))
      where
        its : labels_after k label cpu (pd_of (after k cpu) handler) ≡ label (pd_of k handler)
        its = label_kept k label cpu handler t.fits.tables h

        by_waits : MayWait (after k cpu) (labels_after k label cpu) (labels_after k label cpu (pd_of (after k cpu) handler)) ec → (label (pd_of k handler) ≡ 0) ⊎ (is_local_thread k ec ≡ false)
        by_waits (inl one) = absurd (some (sym its ∙ sym one ∙ own ∙ trusted))
        by_waits (inr client) =
            inr (ap is_local_in actor.object ∙ sym (ap is_local_in (object_kept k cpu ec (Ec actor.domain actor.cpu actor.kind actor.event) actor.object)) ∙ client.1)

    sent : (handler : ℕ) (mark : Mark) → (context (after k cpu) handler).state ≡ Granting None → (context (after k cpu) handler).caller ≡ Some (ec, mark) →
        (label (pd_of k handler) ≡ 0) ⊎ (label (pd_of k handler) ≢ 0) → label (pd_of k handler) ≡ 0
    sent handler mark is keeps (inl none) = none
    sent handler mark is keeps (inr some) =
        let its = label_kept k label cpu handler t.fits.tables (taker_ec k cpu handler ec mark t is keeps) in
        absurd (some (sym its ∙ sym (policy.takes handler ec mark is keeps (λ none. some (sym its ∙ none))) ∙ own ∙ trusted))

pub careful_along : (shared : ℕ → Bool) (flows : ℕ → ℕ → Bool) (s : Scenario) (before turns : List ℕ) (label : ℕ → ℕ) → StayIsolated shared flows (run (boot s) before) label turns → MayTakeTurns shared (run (boot s) before) label turns
careful_along shared flows s before [] label within = tt
careful_along shared flows s before (cpu ∷ turns) label within =
    let k = run (boot s) before in
    let next : run (boot s) (before ++ cpu ∷ []) ≡ after k cpu = run_append (boot s) before (cpu ∷ []) in (
      careful_from k label cpu (turn_taken s before cpu) within.0.policy,
      subst (λ (l : KernelState). MayTakeTurns shared l (labels_after k label cpu) turns) next
          (careful_along shared flows s (before ++ cpu ∷ []) turns (labels_after k label cpu) (subst (λ (l : KernelState). StayIsolated shared flows l (labels_after k label cpu) turns) (sym next) within.1)),
    )
