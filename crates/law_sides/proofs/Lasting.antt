-- Where all that is trusted is at rest the sides stay isolated, whatever turns follow.
use Rattle.std.proofs.Common.{◌≡◌, ◌≢◌, ◌⊎◌, ◌++◌, ℕ, zero, suc, List, [], ◌∷◌, length, refl, sym, ap, ◌∙◌, subst, inl, inr}
use Rattle.std.specs.Prelude.{Bool, true, is_some, Contains, slice_get, Option, Some, None, option_map}
use Rattle.std.proofs.lemmas.Option.{same_Some, slice_get_within}
use Rattle.nova_objects.specs.declared.object.Object.{Object}
use Rattle.nova_objects.specs.declared.object.Object.TheVariants.{Pd, Ec, Sc, Pt, Sm}
use Rattle.nova_range.specs.Rights.{write_right}
use Rattle.nova_range.specs.declared.range.Kind.TheVariants.{Obj}
use Rattle.nova_model.specs.Boot.{Scenario, boot}
use Rattle.nova_model.specs.Choice.{Candidate, next_to_act}
use Rattle.nova_model.specs.Edges.{edge}
use Rattle.nova_model.specs.Runs.{after, run}
use Rattle.nova_model.specs.State.{KernelState, pd_in, pd_of}
use Rattle.nova_model.specs.declared.context.EcState.{EcState}
use Rattle.nova_model.specs.declared.delegation.Derivation.{Derivation}
use Rattle.law_forest.specs.Made.{GivesChild, Grows, GrowsBy, Leaves, MakesObject, TakesLeaf}
use Rattle.law_forest.proofs.Growth.{turn_grows}
use Rattle.law_turns.specs.Tables.{HasTables, Refers}
use Rattle.law_isolation.proofs.Runs.{reached_sound}
use Rattle.law_origins.specs.Giving.{Acts}
use Rattle.law_origins.proofs.Lists.{run_append}
use Rattle.law_integrity.specs.Confined.{AreSeparate, IsMember, IsOwned, Reach, ReachAny, grown, more}
use Rattle.law_integrity.specs.Waits.{HasLocalEdges}
use Rattle.law_integrity.specs.Trusted.{IsWithinPolicy, Labelled, MayWait, OrTrusted, ReachesSince, labels, labels_after}
use Rattle.law_integrity.proofs.Confined.{separate_along}
use Rattle.law_integrity.proofs.Confining.{acting_one, any_reached, member_pd, object_kept, reached_none}
use Rattle.law_integrity.proofs.Edges.{at_index, local_edges}
use Rattle.law_integrity.proofs.Homes.{reached_homed}
use Rattle.law_integrity.proofs.Labels.{IsEc, context_ec, labels_made, labels_old, local_ec}
use Rattle.law_sides.specs.Isolated.{AreIsolated}
use Rattle.law_sides.specs.Resting.{IsAtRest, Sided}
use Rattle.law_sides.proofs.Parents.{own_along}
use Rattle.law_sides.proofs.Stuck.{Nowhere}
use Rattle.law_sides.proofs.Rest.{first_sided, resting_reach, resting_within, separate_here, sided_along}

-- DOMAINS WITH A LABEL ARE OF THE SET

-- of one more object, that which is new is the last
last_only : (os : List Object) (o : Object) (n : ℕ) (x : Object) → slice_get os n ≡ None → slice_get (os ++ o ∷ []) n ≡ Some x → n ≡ length os
last_only [] o zero x none is = refl
last_only [] o (suc n) x none is = absurd (cc)
last_only (y ∷ os) o zero x none is = absurd (cc)
last_only (y ∷ os) o (suc n) x none is = ap suc (last_only os o n x none is)

abbrev pub AreAll : KernelState → (ℕ → ℕ) → (ℕ → Type 0) → Type 0
AreAll k label S = (n : ℕ) → label n ≢ 0 → slice_get k.objects n ≡ Some Pd → S n

-- an execution context is of the set, where its domain has a label; so is one that acts
ec_of_all : (k : KernelState) (label : ℕ → ℕ) (S : ℕ → Type 0) (ec : ℕ) → HasTables k → AreAll k label S → IsEc k ec → label (pd_of k ec) ≢ 0 → IsMember k S ec
ec_of_all k label S ec tables all m some = record {
  domain = m.domain;
  cpu = m.cpu;
  kind = m.kind;
  event = m.event;
  object = m.object;
  of = all m.domain (λ none. some (ap label (ap pd_in m.object) ∙ none)) (at_index (Refers k.objects) k.objects ec (Ec m.domain m.cpu m.kind m.event) tables.refer m.object);
}

actor_of : (k : KernelState) (label : ℕ → ℕ) (S : ℕ → Type 0) (cpu ec : ℕ) → HasTables k → AreAll k label S → Acts k cpu ec → label (pd_of k ec) ≢ 0 → IsMember k S ec
actor_of k label S cpu ec tables all acts_ some = ec_of_all k label S ec tables all (context_ec k ec tables (ap (λ (o : Option EcState). is_some o) (acting_one k cpu ec acts_).there)) some

pub all_after : (k : KernelState) (label : ℕ → ℕ) (S : ℕ → Type 0) (cpu : ℕ) → HasTables k → AreAll k label S → AreAll (after k cpu) (labels_after k label cpu) (more k S cpu)
all_after k label S cpu tables all n some there = by_object (slice_get k.objects n) refl
  where
    was : (after k cpu).objects ≡ k.objects → slice_get k.objects n ≡ None → more k S cpu n
    was same none = let both : Some Pd ≡ None = sym there ∙ ap (λ (os : List Object). slice_get os n) same ∙ none in absurd (cc)

    made : (ec : ℕ) → Acts k cpu ec → n ≡ length k.objects → more k S cpu n
    made ec acts_ next =
        inr (record {
          maker = ec;
          acts = acts_;
          of = actor_of k label S cpu ec tables all acts_ (λ none. some (ap (labels_after k label cpu) next ∙ labels_made k label cpu ec acts_ ∙ none));
          number = next;
          made = there;
        })

    by_growth : (ec : ℕ) → Acts k cpu ec → Grows k ec (after k cpu) → slice_get k.objects n ≡ None → more k S cpu n
    by_growth ec acts_ (Leaves h) none = was h.objects none
    by_growth ec acts_ (GivesChild h) none = was h.objects none
    by_growth ec acts_ (TakesLeaf h) none = was h.objects none
    by_growth ec acts_ (MakesObject h) none = made ec acts_ (last_only k.objects h.object n Pd none (ap (λ (os : List Object). slice_get os n) (sym h.objects) ∙ there))

    by_choice : (o : Option Candidate) → next_to_act k cpu ≡ o → GrowsBy k o (after k cpu) → slice_get k.objects n ≡ None → more k S cpu n
    by_choice None is grows none = was grows.objects none
    by_choice (Some c) is grows none = by_growth c.actor (ap (option_map (λ (x : Candidate). x.actor)) is) grows none

    by_object : (o : Option Object) → slice_get k.objects n ≡ o → more k S cpu n
    by_object None at = by_choice (next_to_act k cpu) refl (turn_grows k cpu) at
    by_object (Some y) at =
        let its : y ≡ Pd = same_Some y Pd (sym (object_kept k cpu n y at) ∙ there) in
        inl (all n (λ none. some (labels_old k label cpu n (slice_get_within k.objects n y at) ∙ none)) (at ∙ ap (λ (o : Object). Some o) its))

all_along : (s : Scenario) (before turns : List ℕ) (label : ℕ → ℕ) (S : ℕ → Type 0) → AreAll (run (boot s) before) label S →
    AreAll (run (run (boot s) before) turns) (labels (run (boot s) before) label turns) (grown (run (boot s) before) S turns)
all_along s before [] label S all = all
all_along s before (cpu ∷ turns) label S all =
    let k = run (boot s) before in
    let next : run (boot s) (before ++ cpu ∷ []) ≡ after k cpu = run_append (boot s) before (cpu ∷ []) in
    subst (λ (l : KernelState). AreAll (run l turns) (labels l (labels_after k label cpu) turns) (grown l (more k S cpu) turns)) next
    (all_along s (before ++ cpu ∷ []) turns (labels_after k label cpu) (more k S cpu)
    (subst (λ (l : KernelState). AreAll l (labels_after k label cpu) (more k S cpu)) (sym next) (all_after k label S cpu (reached_sound s before).kept.tables all)))

-- WHAT A SIDE HOLDS IS ITS OWN

-- what is of the sides together, and of this side or trusted, is of this side
own_of : (k : KernelState) (label : ℕ → ℕ) (S : ℕ → Type 0) (side n : ℕ) (o : Option Object) → ((m : ℕ) → S m → label m ≢ 0) → IsOwned k S n o → IsOwned k (OrTrusted label side) n o → IsOwned k (Labelled label side) n o
own_of k label S side n o sided own may = by_object o own may
  where
    one : (m : ℕ) → S m → OrTrusted label side m → Labelled label side m
    one m is (inl same) = same
    one m is (inr none) = absurd (sided m is none)

    member : (ec : ℕ) → IsMember k S ec → IsMember k (OrTrusted label side) ec → IsMember k (Labelled label side) ec
    member ec m l = record { domain = l.domain; cpu = l.cpu; kind = l.kind; event = l.event; object = l.object; of = one l.domain (subst S (ap pd_in l.object) (member_pd k S ec m)) l.of }

    by_object : (p : Option Object) → IsOwned k S n p → IsOwned k (OrTrusted label side) n p → IsOwned k (Labelled label side) n p
    by_object (Some Pd) a b = one n a b
    by_object (Some (Ec pd cpu kind event)) a b = one pd a b
    by_object (Some (Sc donor cpu priority quantum)) a b = member donor a b
    by_object (Some (Pt handler mtd ip)) a b = member handler a b
    by_object (Some Sm) a b = tt
    by_object None a b = tt

since_first : (k : KernelState) (label : ℕ → ℕ) (turns : List ℕ) (side right frame : ℕ) → ReachesSince k label turns side right frame → Reach k (Labelled label side) right frame
since_first k label [] side right frame since = since
since_first k label (cpu ∷ turns) side right frame since = since.0

pub resting_isolated : {shared : ℕ → Bool} {flows : ℕ → ℕ → Bool} (s : Scenario) (before turns : List ℕ) (label : ℕ → ℕ) → AreIsolated shared flows (run (boot s) before) label → IsAtRest (run (boot s) before) label →
    AreIsolated shared flows (run (run (boot s) before) turns) (labels (run (boot s) before) label turns)
resting_isolated {shared} {flows} s before turns label isolated at_rest =
    record { policy = policy; powers = λ d there kind some power. own d there kind some; exits = λ waiter handler is came some. waits waiter handler is some; frames = λ side other frame some more reach any. apart side other frame some more reach any; parents = own_along s before turns label (Sided label) Nowhere (separate_here s before label isolated.policy at_rest) (λ n none. none) (first_sided k label at_rest) isolated.policy isolated.parents }
  where
    k : KernelState
    k = run (boot s) before

    later : ℕ → ℕ
    later = labels k label turns

    policy : IsWithinPolicy shared (run k turns) later
    policy = resting_within s before turns label isolated.policy at_rest

    separate : AreSeparate (run k turns) (grown k (Sided label) turns) (grown k Nowhere turns)
    separate = separate_along s before turns (Sided label) Nowhere (separate_here s before label isolated.policy at_rest)

    holder : (d : Derivation) → Contains (run k turns).delegations.list d → slice_get (run k turns).objects d.pd ≡ Some Pd
    holder d there =
        subst (λ (l : KernelState). Contains l.delegations.list d → slice_get l.objects d.pd ≡ Some Pd) (run_append (boot s) before turns) ((reached_homed s (before ++ turns)).holders d) there

    own : (d : Derivation) → Contains (run k turns).delegations.list d → d.kind ≡ Obj → later d.pd ≢ 0 → IsOwned (run k turns) (Labelled later (later d.pd)) d.target (slice_get (run k turns).objects d.target)
    own d there kind some =
        own_of (run k turns) later (grown k (Sided label) turns) (later d.pd) d.target (slice_get (run k turns).objects d.target) (λ m g. sided_along k label (Sided label) turns (first_sided k label at_rest) m g)
        (separate.first.capabilities d there (all_along s before turns label (Sided label) (λ n is at. is) d.pd some (holder d there)) kind) (policy.capabilities d there kind some).leads

    -- who waits for a handler of a side, by whatever way, is of the sides, so of that side
    waits : (waiter handler : ℕ) → edge (run k turns).contexts waiter ≡ Some handler → later (pd_of (run k turns) handler) ≢ 0 → later (pd_of (run k turns) waiter) ≡ later (pd_of (run k turns) handler)
    waits waiter handler is some = by_wait (policy.edges waiter handler is some)
      where
        met : run (boot s) (before ++ turns) ≡ run k turns
        met = run_append (boot s) before turns

        here : IsEc (run k turns) handler
        here = local_ec (run k turns) handler (subst HasLocalEdges met (local_edges s (before ++ turns)) waiter handler is)

        handling : IsMember (run k turns) (grown k (Sided label) turns) handler
        handling = ec_of_all (run k turns) later (grown k (Sided label) turns) handler (subst HasTables met (reached_sound s (before ++ turns)).kept.tables)
            (all_along s before turns label (Sided label) (λ n has at. has)) here some

        waiting : later (pd_of (run k turns) waiter) ≢ 0
        waiting = sided_along k label (Sided label) turns (first_sided k label at_rest) (pd_of (run k turns) waiter)
            (member_pd (run k turns) (grown k (Sided label) turns) waiter (separate.first.edges waiter handler is handling))

        by_wait : MayWait (run k turns) later (later (pd_of (run k turns) handler)) waiter → later (pd_of (run k turns) waiter) ≡ later (pd_of (run k turns) handler)
        by_wait (inl same) = same
        by_wait (inr client) = absurd (waiting client.0)

    apart : (side other frame : ℕ) → side ≢ 0 → other ≢ 0 → Reach (run k turns) (Labelled later side) write_right frame → ReachAny (run k turns) (Labelled later other) frame → (other ≡ side) ⊎ (flows side other ≡ true)
    apart side other frame some more_ reach any =
        isolated.frames side other frame some more_ (since_first k label turns side write_right frame (resting_reach s before turns label side write_right frame isolated.policy at_rest some reach))
        (any_reached (since_first k label turns other 0 frame (resting_reach s before turns label other 0 frame isolated.policy at_rest more_ (reached_none any))))
