-- What a turn of one side changes of another where they share semaphores.
use Rattle.std.proofs.Common.{◌≡◌, ◌≢◌, ◌⊎◌, ◌==◌, ◌++◌, ℕ, suc, List, [], ◌∷◌, refl, sym, ap, ◌∙◌, subst, inl, inr}
use Rattle.std.specs.Prelude.{Bool, true, false, Contains, slice_get, slice_set, option_map, Option, Some, None}
use Rattle.std.proofs.lemmas.Bool.{eqb-true, eqb-false}
use Rattle.std.proofs.lemmas.Option.{slice_get_within}
use Rattle.nova_objects.specs.declared.object.Object.TheVariants.{Sm}
use Rattle.nova_range.specs.declared.range.Kind.TheVariants.{Obj}
use Rattle.nova_model.specs.Boot.{Scenario, boot}
use Rattle.nova_model.specs.Capabilities.{down_right, up_right}
use Rattle.nova_model.specs.Deeds.{answered, deed, done}
use Rattle.nova_model.specs.Inputs.{stirred}
use Rattle.nova_model.specs.Lines.{line}
use Rattle.nova_model.specs.Runs.{after, run}
use Rattle.nova_model.specs.Semaphores.{semaphore_at}
use Rattle.nova_model.specs.declared.budget.Budget.{Budget}
use Rattle.nova_model.specs.State.{KernelState, budget_at, context_at, deadline_of, entry, pd_of}
use Rattle.nova_model.specs.Turn.{charged, counted, paid_by, quantum_in}
use Rattle.nova_model.specs.declared.context.EcState.{EcState}
use Rattle.nova_model.specs.declared.context.State.TheVariants.{Blocked, Ready}
use Rattle.nova_model.specs.declared.deed.Deed.{Deed}
use Rattle.nova_model.specs.declared.deed.Deed.TheVariants.{Blocks, Ups}
use Rattle.nova_model.specs.declared.delegation.Derivation.{Derivation}
use Rattle.nova_model.specs.declared.new_object.NewObject.{NewObject}
use Rattle.nova_model.specs.declared.times.Deadline.{Deadline}
use Rattle.nova_range.specs.declared.status.Status.TheVariants.{Success}
use Rattle.law_forest.specs.Effects.{applied, deadline_by, deadlines_with, effect, joined, made_by, no_deadline}
use Rattle.law_forest.proofs.Doing.{done_is}
use Rattle.law_forest.proofs.Members.{in_from_contains}
use Rattle.law_isolation.proofs.Runs.{reached_sound}
use Rattle.law_turns.specs.Waiting.{AreDeadlines}
use Rattle.law_turns.proofs.Blocking.{first_woken}
use Rattle.law_turns.proofs.Setting.{get_other, more_at}
use Rattle.law_turns.proofs.TablesFit.{boot_run_fits}
use Rattle.law_origins.specs.Giving.{Acts}
use Rattle.law_origins.proofs.Lists.{run_append}
use Rattle.law_integrity.specs.Confined.{Holds, HoldsAny, IsMember, IsWoken, LeavesTo, StaysOrWakes, Stays as Unchanged, Wakes as Woken}
use Rattle.law_integrity.specs.Integrity.{IsFirstAwake}
use Rattle.law_integrity.specs.Trusted.{IsWithinPolicy, Labelled, OrTrusted}
use Rattle.law_integrity.proofs.Authorised.{authorised_by}
use Rattle.law_integrity.proofs.Confining.{member_pd}
use Rattle.law_integrity.proofs.Sides.{side_leaves}
use Rattle.law_sides.specs.Isolated.{StayOwn}
use Rattle.law_sides.specs.Shared.{IsWokenAtShared, StaysOrWakesAtShared, Stays, Wakes}
use Rattle.law_sides.proofs.Parents.{line_own}

-- DEADLINES

-- another's deed leaves a deadline, or raises the semaphore at which the context is the first that waits
deed_leaves : (ds : List (Option Deadline)) (a n : ℕ) (d : Deed) → n ≢ a →
    (entry (slice_get (deadlines_with ds (deadline_by a d)) n) ≡ entry (slice_get ds n)) ⊎ ((sm : ℕ) × (d ≡ Ups sm (Some n)))
deed_leaves ds a n (Ups sm None) other = inl refl
deed_leaves ds a n (Ups sm (Some w)) other = by_test (n == w) refl
  where
    by_test : (t : Bool) → (n == w) ≡ t → (entry (slice_get (slice_set ds w None) n) ≡ entry (slice_get ds n)) ⊎ ((at : ℕ) × (Ups sm (Some w) ≡ Ups at (Some n)))
    by_test true same = inr (sm, ap (λ (m : ℕ). Ups sm (Some m)) (sym (eqb-true n w same)))
    by_test false same = inl (ap entry (get_other ds w n None (eqb-false n w same)))
deed_leaves ds a n (Blocks sm None) other = inl refl
deed_leaves ds a n (Blocks sm (Some y)) other = inl (ap entry (get_other ds a n (Some y) other))
deed_leaves ds a n d other = inl refl

abbrev IsLeft : KernelState → ℕ → ℕ → Option Deadline → Type 0
IsLeft k ec n o = (o ≡ deadline_of k.times n) ⊎ ((sm : ℕ) × (deed k ec ≡ Ups sm (Some n)))

made_leaves : (k : KernelState) (ec n : ℕ) (ds : List (Option Deadline)) (made : Option NewObject) → IsLeft k ec n (entry (slice_get ds n)) → IsLeft k ec n (entry (slice_get (joined ds (option_map no_deadline made)) n))
made_leaves k ec n ds None each = each
made_leaves k ec n ds (Some m) each = more_at (IsLeft k ec n) ds None n each (λ q. q)

-- a turn is charged, and leaves deadlines
charged_leaves : (k : KernelState) (cpu sc : ℕ) → (charged k cpu sc).times.deadlines ≡ k.times.deadlines
unfolding charged
charged_leaves k cpu sc = by_budget (budget_at k sc)
  where
    by_budget : (b : Option Budget) → (counted (paid_by k sc (quantum_in (slice_get k.objects sc)) b) cpu).times.deadlines ≡ k.times.deadlines
    by_budget None = refl
    by_budget (Some b) = refl

turn_leaves : (s : Scenario) (turns : List ℕ) (cpu ec n : ℕ) → Acts (run (boot s) turns) cpu ec → n ≢ ec → IsLeft (run (boot s) turns) ec n (deadline_of (after (run (boot s) turns) cpu).times n)
turn_leaves s turns cpu ec n acts_ other =
    let k = run (boot s) turns in
    let by = authorised_by s turns cpu ec acts_ in
    let same : (after k cpu).times.deadlines ≡ (applied k (effect k ec (deed k ec))).times.deadlines =
    ap (λ (l : KernelState). l.times.deadlines) by.2.does.after ∙ charged_leaves (stirred k ec (deed k ec) (done k ec (deed k ec))) cpu by.0 ∙ ap (λ (l : KernelState). l.times.deadlines) (done_is k ec (deed k ec)) in
    subst (λ (ds : List (Option Deadline)). IsLeft k ec n (entry (slice_get ds n))) (sym same)
    (made_leaves k ec n (deadlines_with k.times.deadlines (deadline_by ec (deed k ec))) (made_by (deed k ec)) (deed_leaves k.times.deadlines ec n (deed k ec) other))

-- a context that stays as it was keeps its deadline
stays_by : (s : Scenario) (turns : List ℕ) (cpu ec n : ℕ) → Acts (run (boot s) turns) cpu ec → n ≢ ec → context_at (after (run (boot s) turns) cpu) n ≡ context_at (run (boot s) turns) n →
    deadline_of (after (run (boot s) turns) cpu).times n ≡ deadline_of (run (boot s) turns).times n
stays_by s turns cpu ec n acts_ other same = by_left (turn_leaves s turns cpu ec n acts_ other)
  where
    k : KernelState
    k = run (boot s) turns

    by_left : IsLeft k ec n (deadline_of (after k cpu).times n) → deadline_of (after k cpu).times n ≡ deadline_of k.times n
    by_left (inl left) = left
    by_left (inr (sm, is)) =
        let first = first_woken k ec sm n is in
        let raised = ((authorised_by s turns cpu ec acts_).2.raises sm (Some n) is).first in
        let awake = (subst (λ (ecs : List ℕ). IsFirstAwake k (after k cpu) sm ecs (Some n)) first.1 raised).1 in
        let both : Some awake.context ≡ Some (answered awake.context Success None) = sym awake.there ∙ sym same ∙ awake.goes_on in
        let states : Some awake.context.state ≡ Some Ready = ap (option_map (λ (x : EcState). x.state)) both in
        let blocked : awake.context.state ≡ Blocked sm = awake.blocked in
        absurd (cc)

-- who is ready has none
timeless : (k : KernelState) (n : ℕ) (x : EcState) → AreDeadlines k.contexts k.times.deadlines → context_at k n ≡ Some (answered x Success None) → deadline_of k.times n ≡ None
timeless k n x late now = by_deadline (deadline_of k.times n) refl
  where
    by_deadline : (o : Option Deadline) → deadline_of k.times n ≡ o → o ≡ None
    by_deadline None is = refl
    by_deadline (Some d) is =
        let blocked : Some (Blocked d.sm) ≡ Some Ready = sym (late n d is).blocked ∙ ap (option_map (λ (y : EcState). y.state)) now in
        absurd (cc)

module _ {shared : ℕ → Bool} (s : Scenario) (turns : List ℕ) (label : ℕ → ℕ) (cpu ec side : ℕ) (policy : IsWithinPolicy shared (run (boot s) turns) label) (acts_ : Acts (run (boot s) turns) cpu ec)
    (own : label (pd_of (run (boot s) turns) ec) ≢ 0) (some : side ≢ 0) (other : side ≢ label (pd_of (run (boot s) turns) ec)) where
  abbrev k : KernelState
  k = run (boot s) turns

  abbrev Mine : ℕ → Type 0
  Mine = Labelled label (label (pd_of k ec))

  left : LeavesTo k (after k cpu) Mine (Labelled label side)
  left = side_leaves s turns label cpu ec side policy acts_ own some other

  apart : (n : ℕ) → label n ≡ side → OrTrusted label (label (pd_of k ec)) n → ⊥
  apart n its (inl same) = other (sym its ∙ same)
  apart n its (inr trusted) = some (sym its ∙ trusted)

  -- what is woken waits at a shared semaphore
  woken_shared : (n : ℕ) → IsMember k (Labelled label side) n → (woken : IsWoken k Mine n) → IsWokenAtShared shared k Mine n
  woken_shared n m woken = by_share (shared woken.sm) refl
    where
      by_share : (t : Bool) → shared woken.sm ≡ t → IsWokenAtShared shared k Mine n
      by_share true common = (woken, common)
      by_share false lone =
          let h = woken.may in
          let may = policy.capabilities h.capability h.there h.kind (λ none. own (sym h.of ∙ none)) in
          absurd (apart (pd_of k n) (member_pd k (Labelled label side) n m) (subst (λ (l : ℕ). OrTrusted label l (pd_of k n)) h.of
          (may.waits (ap shared h.leads ∙ lone) n (woken.blocked ∙ ap (λ (sm : ℕ). Blocked sm) (sym h.leads)))))

  -- who is woken has no deadline
  woken_timeless : (n : ℕ) (x : EcState) → context_at (after k cpu) n ≡ Some (answered x Success None) → deadline_of (after k cpu).times n ≡ None
  woken_timeless n x now = timeless (after k cpu) n x (subst (λ (l : KernelState). AreDeadlines l.contexts l.times.deadlines) (run_append (boot s) turns (cpu ∷ [])) (boot_run_fits s (turns ++ cpu ∷ [])).late) now

  pub contexts_left : (n : ℕ) → IsMember k (Labelled label side) n →
      StaysOrWakesAtShared shared k Mine n (context_at k n) (context_at (after k cpu) n) (deadline_of k.times n) (deadline_of (after k cpu).times n)
  contexts_left n m = by_left (left.contexts n m)
    where
      by_left : StaysOrWakes k Mine n (context_at k n) (context_at (after k cpu) n) →
          StaysOrWakesAtShared shared k Mine n (context_at k n) (context_at (after k cpu) n) (deadline_of k.times n) (deadline_of (after k cpu).times n)
      by_left (Unchanged same) =
          Stays same (stays_by s turns cpu ec n acts_ (λ its. apart (pd_of k n) (member_pd k (Labelled label side) n m) (inl (ap (λ (e : ℕ). label (pd_of k e)) its))) same)
      by_left (Woken woken x was now) = Wakes (woken_shared n m woken) x was now (woken_timeless n x now)

  pub semaphores_left : (sm : ℕ) → HoldsAny k (Labelled label side) sm → slice_get k.objects sm ≡ Some Sm → shared sm ≡ false → semaphore_at (after k cpu).semaphores sm ≡ semaphore_at k.semaphores sm
  semaphores_left sm its there lone =
      left.semaphores sm (slice_get_within k.objects sm Sm there) (unheld up_right) (unheld down_right)
    where
      unheld : (right : ℕ) → Holds k Mine right sm → ⊥
      unheld right h =
          let may = policy.capabilities h.capability h.there h.kind (λ none. own (sym h.of ∙ none)) in
          apart its.capability.pd its.of (subst (λ (l : ℕ). OrTrusted label l its.capability.pd) h.of
          (may.alone (ap (slice_get k.objects) h.leads ∙ there) (ap shared h.leads ∙ lone) its.capability its.there its.kind (its.leads ∙ sym h.leads)))

  pub capabilities_left : StayOwn shared k label → (d : Derivation) → Contains k.delegations.list d → d.kind ≡ Obj → label d.pd ≡ side → slice_get k.objects d.target ≡ Some Sm → shared d.target ≡ true →
      Contains (after k cpu).delegations.list d
  capabilities_left parents d there kind its sm common =
      left.keeps d there
      (λ ancestor above mine. other (sym its ∙ line_own shared k label (reached_sound s turns).forest parents (suc d.id) d ancestor (in_from_contains k.delegations.list d there) kind sm common
      (in_from_contains (line k.delegations.list d) ancestor above) (λ none. own (sym mine ∙ none)) ∙ mine))
