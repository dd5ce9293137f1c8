-- Where all that is trusted is at rest nobody acts that is trusted, whatever turns follow.
use Rattle.std.proofs.Common.{◌≡◌, ◌≢◌, ◌⊎◌, ◌++◌, ℕ, List, [], ◌∷◌, sym, ap, ◌∙◌, subst, inl, inr}
use Rattle.std.specs.Prelude.{Bool, is_some, not, slice_get, Option, Some}
use Rattle.std.proofs.lemmas.Bool.{cases_eq, ne_eqb}
use Rattle.nova_objects.specs.declared.object.Object.TheVariants.{Pd}
use Rattle.nova_model.specs.Boot.{Scenario, boot}
use Rattle.nova_model.specs.Edges.{edge}
use Rattle.nova_model.specs.Runs.{after, run}
use Rattle.nova_model.specs.State.{KernelState, pd_in, pd_of}
use Rattle.nova_model.specs.declared.context.EcState.{EcState}
use Rattle.law_turns.proofs.TablesFit.{TablesFit, boot_run_fits}
use Rattle.law_origins.specs.Giving.{Acts}
use Rattle.law_origins.proofs.Lists.{run_append}
use Rattle.law_integrity.specs.Confined.{AreSeparate, Holds, IsMember, Reach, grown, more}
use Rattle.law_integrity.specs.Trusted.{HoldsSince, IsGivenFrame, IsGivenObject, IsMadeBySide, IsWithinPolicy, Labelled, MayTakeTurns, MayWait, ReachesSince, labels, labels_after}
use Rattle.law_integrity.proofs.Confined.{acts_along, separate_after}
use Rattle.law_integrity.proofs.Confining.{member_pd, object_kept}
use Rattle.law_integrity.proofs.Labels.{context_ec, edge_ec, labels_made, labels_old}
use Rattle.law_integrity.proofs.Resting.{acts_in}
use Rattle.law_integrity.proofs.Sides.{side_holds, side_reaches, within_along}
use Rattle.std.proofs.lemmas.Option.{slice_get_within}
use Rattle.law_sides.specs.Resting.{IsAtRest, Sided, is_sided}
use Rattle.law_sides.proofs.Entries.{edge_there}
use Rattle.law_sides.proofs.Parted.{resting_waits}
use Rattle.law_sides.proofs.Stuck.{Nowhere, RaisesByActing, idle_from, nowhere_closed}

-- the sides together, beside nothing
separate_from : {shared : ℕ → Bool} (k : KernelState) (label : ℕ → ℕ) → TablesFit k → IsWithinPolicy shared k label → IsAtRest k label → AreSeparate k (Sided label) Nowhere
separate_from {shared} k label fits policy at_rest = record {
  first = record {
    there = λ n some. at_rest.domains n some;
    capabilities = λ d has some kind. at_rest.capabilities d has kind some;
    edges = λ waiter handler is m.
        let its = member_pd k (Sided label) handler m in
        waits waiter handler is (edge_ec k waiter handler fits.tables is) its (policy.edges waiter handler is its);
    firsts = λ ec new is m. let its = member_pd k (Sided label) ec m in let one = policy.firsts ec new is its in λ none. its (sym one ∙ none);
  };
  second = nowhere_closed k;
  disjoint = λ n some none. none;
  rest = λ ec x at. elim (cases_eq (label (pd_of k ec)) 0) [
    | inl trusted ↦ inl (idle_from k (is_sided label) fits ec x at (Sided label) Nowhere by_side (λ sm h. absurd h.of) (at_rest.rest ec x at trusted))
    | inr some ↦ inr (inl (member ec (context_ec k ec fits.tables (ap (λ (o : Option EcState). is_some o) at)) some))
  ];
}
  where
    member : (n : ℕ) → IsMember k (λ m. Unit {0}) n → label (pd_of k n) ≢ 0 → IsMember k (Sided label) n
    member n m some = record { domain = m.domain; cpu = m.cpu; kind = m.kind; event = m.event; object = m.object; of = λ none. some (ap label (ap pd_in m.object) ∙ none) }

    -- what is trusted waits for no handler
    waits : (waiter handler : ℕ) → edge k.contexts waiter ≡ Some handler → IsMember k (λ m. Unit {0}) waiter → label (pd_of k handler) ≢ 0 → MayWait k label (label (pd_of k handler)) waiter →
        IsMember k (Sided label) waiter
    waits waiter handler is m its (inl one) = member waiter m (λ none. its (sym one ∙ none))
    waits waiter handler is m its (inr client) =
        let x = edge_there k waiter handler is in
        absurd (resting_waits k (is_sided label) x.0.cpu x.0.state handler (at_rest.rest waiter x.0 x.1 client.0) x.2)

    by_side : RaisesByActing k (is_sided label) (Sided label)
    by_side sm h = ap not (ne_eqb (label h.capability.pd) 0 h.of)

-- each domain of the set is there, and its label isn't 0
abbrev pub AreSided : KernelState → (ℕ → ℕ) → (ℕ → Type 0) → Type 0
AreSided k label S = (n : ℕ) → S n → (label n ≢ 0) × (slice_get k.objects n ≡ Some Pd)

pub sided_after : (k : KernelState) (label : ℕ → ℕ) (S : ℕ → Type 0) (cpu : ℕ) → AreSided k label S → AreSided (after k cpu) (labels_after k label cpu) (more k S cpu)
sided_after k label S cpu of n (inl is) =
    let its = of n is in
    (λ none. its.0 (sym (labels_old k label cpu n (slice_get_within k.objects n Pd its.1)) ∙ none), object_kept k cpu n Pd its.1)
sided_after k label S cpu of n (inr made) =
    let its = of (pd_of k made.maker) (member_pd k S made.maker made.of) in
    (λ none. its.0 (sym (labels_made k label cpu made.maker made.acts) ∙ sym (ap (labels_after k label cpu) made.number) ∙ none), made.made)

pub none_after : (k : KernelState) (T : ℕ → Type 0) (cpu : ℕ) → ((n : ℕ) → T n → ⊥) → (n : ℕ) → more k T cpu n → ⊥
none_after k T cpu none n (inl is) = none n is
none_after k T cpu none n (inr made) = none made.of.domain made.of.of

pub takes_turns : (shared : ℕ → Bool) (s : Scenario) (before turns : List ℕ) (label : ℕ → ℕ) (S T : ℕ → Type 0) → AreSeparate (run (boot s) before) S T → AreSided (run (boot s) before) label S → ((n : ℕ) → T n → ⊥) →
    MayTakeTurns shared (run (boot s) before) label turns
takes_turns shared s before [] label S T apart of none = tt
takes_turns shared s before (cpu ∷ turns) label S T apart of none =
    let k = run (boot s) before in
    let next : run (boot s) (before ++ cpu ∷ []) ≡ after k cpu = run_append (boot s) before (cpu ∷ []) in (
      λ ec acts_ trusted. absurd (by_side k ec of trusted (acts_in k S T cpu ec apart acts_)),
      subst (λ (l : KernelState). MayTakeTurns shared l (labels_after k label cpu) turns) next
          (takes_turns shared s (before ++ cpu ∷ []) turns (labels_after k label cpu) (more k S cpu) (more k T cpu)
          (subst (λ (l : KernelState). AreSeparate l (more k S cpu) (more k T cpu)) (sym next) (separate_after s before S T cpu apart))
          (subst (λ (l : KernelState). AreSided l (labels_after k label cpu) (more k S cpu)) (sym next) (sided_after k label S cpu of)) (none_after k T cpu none)),
    )
  where
    by_side : (k : KernelState) (ec : ℕ) → AreSided k label S → label (pd_of k ec) ≡ 0 → IsMember k S ec ⊎ IsMember k T ec → ⊥
    by_side k ec of_ trusted (inl m) = (of_ (pd_of k ec) (member_pd k S ec m)).0 trusted
    by_side k ec of_ trusted (inr m) = none m.domain m.of

pub sided_along : (k : KernelState) (label : ℕ → ℕ) (S : ℕ → Type 0) (turns : List ℕ) → AreSided k label S → (n : ℕ) → grown k S turns n → labels k label turns n ≢ 0
sided_along k label S [] of n g = (of n g).0
sided_along k label S (cpu ∷ turns) of n g = sided_along (after k cpu) (labels_after k label cpu) (more k S cpu) turns (sided_after k label S cpu of) n g

none_along : (k : KernelState) (T : ℕ → Type 0) (turns : List ℕ) → ((n : ℕ) → T n → ⊥) → (n : ℕ) → grown k T turns n → ⊥
none_along k T [] none n g = none n g
none_along k T (cpu ∷ turns) none n g = none_along (after k cpu) (more k T cpu) turns (none_after k T cpu none) n g

pub first_sided : (k : KernelState) (label : ℕ → ℕ) → IsAtRest k label → AreSided k label (Sided label)
first_sided k label at_rest n some = (some, at_rest.domains n some)

pub separate_here : {shared : ℕ → Bool} (s : Scenario) (before : List ℕ) (label : ℕ → ℕ) → IsWithinPolicy shared (run (boot s) before) label → IsAtRest (run (boot s) before) label → AreSeparate (run (boot s) before) (Sided label) Nowhere
separate_here {shared} s before label policy at_rest = separate_from (run (boot s) before) label (boot_run_fits s before) policy at_rest

pub resting_turns : {shared : ℕ → Bool} (s : Scenario) (before turns : List ℕ) (label : ℕ → ℕ) → IsWithinPolicy shared (run (boot s) before) label → IsAtRest (run (boot s) before) label → MayTakeTurns shared (run (boot s) before) label turns
resting_turns {shared} s before turns label policy at_rest =
    takes_turns shared s before turns label (Sided label) Nowhere (separate_here s before label policy at_rest) (first_sided (run (boot s) before) label at_rest) (λ n none. none)

pub resting_within : {shared : ℕ → Bool} (s : Scenario) (before turns : List ℕ) (label : ℕ → ℕ) → IsWithinPolicy shared (run (boot s) before) label → IsAtRest (run (boot s) before) label →
    IsWithinPolicy shared (run (run (boot s) before) turns) (labels (run (boot s) before) label turns)
resting_within {shared} s before turns label policy at_rest = within_along s before turns label policy (resting_turns s before turns label policy at_rest)

pub resting_acts : {shared : ℕ → Bool} (s : Scenario) (before turns : List ℕ) (label : ℕ → ℕ) (cpu ec : ℕ) → IsWithinPolicy shared (run (boot s) before) label → IsAtRest (run (boot s) before) label →
    Acts (run (run (boot s) before) turns) cpu ec → labels (run (boot s) before) label turns (pd_of (run (run (boot s) before) turns) ec) ≢ 0
resting_acts {shared} s before turns label cpu ec policy at_rest acts_ =
    by_side (acts_along s before turns (Sided label) Nowhere cpu ec (separate_here s before label policy at_rest) acts_)
  where
    k : KernelState
    k = run (boot s) before

    by_side : IsMember (run k turns) (grown k (Sided label) turns) ec ⊎ IsMember (run k turns) (grown k Nowhere turns) ec → labels k label turns (pd_of (run k turns) ec) ≢ 0
    by_side (inl m) = sided_along k label (Sided label) turns (first_sided k label at_rest) (pd_of (run k turns) ec) (member_pd (run k turns) (grown k (Sided label) turns) ec m)
    by_side (inr m) = absurd (none_along k Nowhere turns (λ n none. none) m.domain m.of)

pub resting_reach : {shared : ℕ → Bool} (s : Scenario) (before turns : List ℕ) (label : ℕ → ℕ) (side right frame : ℕ) → IsWithinPolicy shared (run (boot s) before) label → IsAtRest (run (boot s) before) label → side ≢ 0 →
    Reach (run (run (boot s) before) turns) (Labelled (labels (run (boot s) before) label turns) side) right frame → ReachesSince (run (boot s) before) label turns side right frame
resting_reach {shared} s before turns label side right frame policy at_rest some r =
    by_way (side_reaches s before turns label side right frame policy (resting_turns s before turns label policy at_rest) some r)
  where
    by_way : ReachesSince (run (boot s) before) label turns side right frame ⊎ IsGivenFrame (run (boot s) before) label turns side right frame → ReachesSince (run (boot s) before) label turns side right frame
    by_way (inl since) = since
    by_way (inr given) = let t = given.turn in absurd (resting_acts s before t.before label t.cpu t.actor policy at_rest t.acts t.of)

pub resting_holds : {shared : ℕ → Bool} (s : Scenario) (before turns : List ℕ) (label : ℕ → ℕ) (side right object : ℕ) → IsWithinPolicy shared (run (boot s) before) label → IsAtRest (run (boot s) before) label → side ≢ 0 →
    Holds (run (run (boot s) before) turns) (Labelled (labels (run (boot s) before) label turns) side) right object →
    HoldsSince (run (boot s) before) label turns side right object ⊎ IsMadeBySide (run (boot s) before) label turns side right object
resting_holds {shared} s before turns label side right object policy at_rest some h =
    by_way (side_holds s before turns label side right object policy (resting_turns s before turns label policy at_rest) some h)
  where
    by_way : HoldsSince (run (boot s) before) label turns side right object
        ⊎ (IsGivenObject (run (boot s) before) label turns side right object ⊎ IsMadeBySide (run (boot s) before) label turns side right object) →
        HoldsSince (run (boot s) before) label turns side right object ⊎ IsMadeBySide (run (boot s) before) label turns side right object
    by_way (inl since) = inl since
    by_way (inr (inl given)) = let t = given.turn in absurd (resting_acts s before t.before label t.cpu t.actor policy at_rest t.acts t.of)
    by_way (inr (inr made)) = inr made
