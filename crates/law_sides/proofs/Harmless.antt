-- Where each trusted domain is at rest, bare or mute, whoever acts that is trusted is careful, whatever turns follow.
use Rattle.std.proofs.Common.{◌≡◌, ◌≢◌, ◌⊎◌, ◌++◌, ℕ, List, [], ◌∷◌, refl, sym, ap, ◌∙◌, subst, inl, inr}
use Rattle.std.specs.Prelude.{Bool, true, false, Contains, is_some, slice_get, Option, Some, None}
use Rattle.std.proofs.lemmas.Bool.{and_parts, not-true}
use Rattle.nova_objects.specs.declared.object.Object.{Object}
use Rattle.nova_objects.specs.declared.object.Object.TheVariants.{Pd, Ec, Sc, Pt, Sm}
use Rattle.nova_range.specs.Rights.{allows}
use Rattle.nova_range.specs.declared.range.Kind.TheVariants.{Obj}
use Rattle.nova_model.specs.Boot.{Scenario, boot}
use Rattle.nova_model.specs.Capabilities.{bind_portal_right, call_right, create_right}
use Rattle.nova_model.specs.Edges.{edge}
use Rattle.nova_model.specs.Runs.{after, run}
use Rattle.nova_model.specs.State.{KernelState, context, context_at, context_in, pd_in, pd_of}
use Rattle.nova_model.specs.declared.context.EcState.{EcState}
use Rattle.nova_model.specs.declared.context.Mark.{Mark}
use Rattle.nova_model.specs.declared.context.Mark.TheVariants.{Call}
use Rattle.nova_model.specs.declared.context.State.TheVariants.{Granting}
use Rattle.nova_model.specs.declared.delegation.Derivation.{Derivation}
use Rattle.law_origins.specs.Giving.{Acts}
use Rattle.law_origins.proofs.Lists.{run_append}
use Rattle.law_turns.proofs.TablesFit.{TablesFit, boot_run_fits}
use Rattle.law_turns.specs.Tables.{HasTables}
use Rattle.law_isolation.specs.Sound.{IsSound}
use Rattle.law_isolation.proofs.Runs.{reached_sound}
use Rattle.law_integrity.specs.Confined.{AreSeparate, IsMember, more}
use Rattle.law_integrity.specs.Rights.{GivesFirst, GivesTo, RepliesWith, TakesOfCaller}
use Rattle.law_integrity.specs.Trusted.{IsCareful, IsWithinPolicy, MayHold, MayTakeTurn, MayTakeTurns, labels, labels_after}
use Rattle.law_integrity.proofs.Confined.{separate_after}
use Rattle.law_integrity.proofs.Confining.{Child, Newest, Old, Whence, acting_one, acts_one, member_pd, object_kept, waits_edge, whence}
use Rattle.law_integrity.proofs.Labels.{IsEc, IsTaken, context_ec, label_kept, turn_taken}
use Rattle.law_integrity.proofs.Policy.{policy_after, served_waits}
use Rattle.law_integrity.proofs.Resting.{acts_in}
use Rattle.law_integrity.proofs.Sides.{within_along}
use Rattle.law_sides.specs.Isolated.{CommandOwn}
use Rattle.law_sides.specs.Roles.{AreHarmless, domain_of, is_no_grant, is_powerless, is_uncalled}
use Rattle.law_sides.proofs.Bare.{AreBare, IsWeak, bare_after}
use Rattle.law_sides.proofs.Careful.{handler_there}
use Rattle.law_sides.proofs.Muted.{AreMute, gift_out, mute_after}
use Rattle.law_sides.proofs.Parted.{bare_none, bare_waits, given_none, mute_first, parted}
use Rattle.law_sides.proofs.Powers.{GivesNone, powers_after}
use Rattle.law_sides.proofs.Rest.{none_after}
use Rattle.law_sides.proofs.Roles.{IsBare, IsMute, Living, bare_context, bare_holds, bare_weak}
use Rattle.law_sides.proofs.Stuck.{Nowhere}

-- WHAT ROLES SAY

module _ {shared : ℕ → Bool} (k : KernelState) (label : ℕ → ℕ) (fits : TablesFit k) (policy : IsWithinPolicy shared k label) (harmless : AreHarmless k label) where
  tables : HasTables k
  tables = fits.tables

  weak : (d : Derivation) → Contains k.delegations.list d → d.kind ≡ Obj → label d.pd ≢ 0 → IsWeak k (IsBare k label) d.rights d.target (slice_get k.objects d.target)
  weak d there kind some = by_object (slice_get k.objects d.target) refl
    where
      rights : (n : ℕ) (o : Option Object) → IsBare k label n → slice_get k.objects d.target ≡ o → domain_of k d.target o ≡ Some n → is_powerless d.rights o ≡ true
      rights n o b at to = subst (λ (p : Option Object). is_powerless d.rights p ≡ true) at (bare_weak k label tables n b.bare d there kind some (ap (domain_of k d.target) at ∙ to))

      by_object : (o : Option Object) → slice_get k.objects d.target ≡ o → IsWeak k (IsBare k label) d.rights d.target o
      by_object (Some Pd) at = λ b. not-true (allows d.rights create_right) (rights d.target (Some Pd) b at refl)
      by_object (Some (Ec pd cpu its event)) at = λ b. not-true (allows d.rights bind_portal_right) (rights pd (Some (Ec pd cpu its event)) b at refl)
      by_object (Some (Sc donor cpu priority quantum)) at = tt
      by_object (Some (Pt handler mtd ip)) at = λ b. not-true (allows d.rights call_right) (rights (pd_of k handler) (Some (Pt handler mtd ip)) b at refl)
      by_object (Some Sm) at = tt
      by_object None at = tt

  facts : (ec : ℕ) (x : EcState) → context_at k ec ≡ Some x → IsBare k label (pd_of k ec) → (is_no_grant x.state ≡ true) × (is_uncalled x.caller ≡ true)
  facts ec x at b = and_parts (is_no_grant x.state) (is_uncalled x.caller) (bare_context k label tables (pd_of k ec) b.bare ec x at refl).1

  not_called : (ec caller : ℕ) → (context k ec).caller ≡ Some (caller, Call) → IsBare k label (pd_of k ec) → ⊥
  not_called ec caller is b = by_entry (context_at k ec) refl is
    where
      by_entry : (o : Option EcState) → context_at k ec ≡ o → (context_in o).caller ≡ Some (caller, Call) → ⊥
      by_entry None at keeps = absurd (cc)
      by_entry (Some y) at keeps =
          let off : is_uncalled (Some (caller, Call)) ≡ true = subst (λ (q : Option (ℕ × Mark)). is_uncalled q ≡ true) keeps (facts ec y at b).1 in cc

  pub bare_first : AreBare k label (Living k label) (IsMute k label) (IsBare k label)
  bare_first = record {
    sides = λ n is. is;
    apart = λ n b m. let both : true ≡ false = sym b.bare ∙ m.other in cc;
    there = λ n b. b.there;
    within = λ n b. inr (inl b);
    trusted = λ n b. b.trusted;
    holds = λ d there kind b. bare_holds k label tables d.pd b.bare d there kind refl;
    weak = weak;
    edges = λ ec handler is b. bare_waits k label fits policy harmless ec handler is b;
    firsts = λ ec new is b. bare_none k label fits policy harmless ec new is b;
    given = λ ec new is b. given_none k label fits policy harmless ec new is b.trusted;
    callers = not_called;
  }

-- A TURN

module _ (shared : ℕ → Bool) (s : Scenario) (before : List ℕ) (label : ℕ → ℕ) (S T M B : ℕ → Type 0) (cpu : ℕ) where
  abbrev pub k : KernelState
  k = run (boot s) before

  module _ (t : IsTaken k cpu) (apart : AreSeparate k S T) (none : (n : ℕ) → T n → ⊥) (bare : AreBare k label S M B) (mute : AreMute k label S M) where
    bare_later : AreBare (after k cpu) (labels_after k label cpu) (more k S cpu) (more k M cpu) B
    bare_later = bare_after s before label S T M B cpu t apart none bare mute

    mute_later : AreMute (after k cpu) (labels_after k label cpu) (more k S cpu) (more k M cpu)
    mute_later = mute_after s before label S T M B cpu t mute apart none bare.sides bare.holds

    same_pd : (ec : ℕ) → IsEc k ec → pd_of (after k cpu) ec ≡ pd_of k ec
    same_pd ec m = ap pd_in (object_kept k cpu ec (Ec m.domain m.cpu m.kind m.event) m.object) ∙ sym (ap pd_in m.object)

    actor_ec : (ec : ℕ) → Acts k cpu ec → IsEc k ec
    actor_ec ec acts_ = context_ec k ec t.fits.tables (ap (λ (o : Option EcState). is_some o) (acting_one k cpu ec acts_).there)

    as_one : (d source : Derivation) (e ec : ℕ) → Acts k cpu e → Acts k cpu ec → GivesTo k e source.pd d.pd → GivesTo k ec source.pd d.pd
    as_one d source e ec its acts_ gives = subst (λ (a : ℕ). GivesTo k a source.pd d.pd) (acts_one k cpu e ec its acts_) gives

    -- one whose items a handler takes waits for it
    taker_edge : (ec handler : ℕ) (mark : Mark) → (context (after k cpu) handler).state ≡ Granting None → (context (after k cpu) handler).caller ≡ Some (ec, mark) → edge (after k cpu).contexts ec ≡ Some handler
    taker_edge ec handler mark is keeps =
        waits_edge (after k cpu) ec handler
        (served_waits (after k cpu) handler ec mark (subst IsSound (run_append (boot s) before (cpu ∷ [])) (reached_sound s (before ++ cpu ∷ []))) is keeps)

    careful_bare : (ec : ℕ) → Acts k cpu ec → B (pd_of k ec) → IsCareful shared k label cpu ec
    careful_bare ec acts_ b = record {
      gives = λ d there kind some. by_whence d kind some (whence k cpu d t.sound.forest there);
      calls = λ handler is. absurd (waits_not handler is);
      sends = λ handler mark is keeps. absurd (waits_not handler (taker_edge ec handler mark is keeps));
    }
      where
        waits_not : (handler : ℕ) → edge (after k cpu).contexts ec ≡ Some handler → ⊥
        waits_not handler is = bare_later.edges ec handler is (subst B (sym (same_pd ec (actor_ec ec acts_))) b)

        no_gift : (d source : Derivation) → Contains k.delegations.list source → source.kind ≡ Obj → label d.pd ≢ 0 → GivesTo k ec source.pd d.pd → ⊥
        no_gift d source was kind some (TakesOfCaller caller mark state serves g r) = some (ap label (sym r) ∙ bare.trusted (pd_of k ec) b)
        no_gift d source was kind some (RepliesWith caller mark state serves g r) = bare.holds source was kind (subst B g b)
        no_gift d source was kind some (GivesFirst state g) = bare.firsts ec d.pd state b

        by_whence : (d : Derivation) → d.kind ≡ Obj → label d.pd ≢ 0 → Whence k cpu d → Contains k.delegations.list d ⊎ MayHold shared (after k cpu) (labels_after k label cpu) (label d.pd) d.target
        by_whence d kind some (Old was) = inl was
        by_whence d kind some (Newest e its o first objects) =
            absurd (some (ap label (first.pd ∙ ap (pd_of k) (acts_one k cpu e ec its acts_)) ∙ bare.trusted (pd_of k ec) b))
        by_whence d kind some (Child e its source was within gives) =
            absurd (no_gift d source was (sym within.kind ∙ kind) some (as_one d source e ec its acts_ gives))

    careful_mute : (ec : ℕ) → Acts k cpu ec → M (pd_of k ec) → IsCareful shared k label cpu ec
    careful_mute ec acts_ m = record {
      gives = λ d there kind some. by_whence d some (whence k cpu d t.sound.forest there);
      calls = λ handler is. inl (own handler is);
      sends = λ handler mark is keeps. own handler (taker_edge ec handler mark is keeps);
    }
      where
        no_gift : (d source : Derivation) → label d.pd ≢ 0 → GivesTo k ec source.pd d.pd → M source.pd → ⊥
        no_gift d source some gives giver = some (mute.trusted d.pd (gift_out s before label S T M B cpu t mute ec source.pd d.pd acts_ gives giver))

        by_gift : (d source : Derivation) → label d.pd ≢ 0 → GivesTo k ec source.pd d.pd → ⊥
        by_gift d source some (TakesOfCaller caller mark state serves g r) = some (ap label (sym r) ∙ mute.trusted (pd_of k ec) m)
        by_gift d source some (RepliesWith caller mark state serves g r) = no_gift d source some (RepliesWith caller mark state serves g r) (subst M g m)
        by_gift d source some (GivesFirst state g) = no_gift d source some (GivesFirst state g) (subst M g m)

        by_whence : (d : Derivation) → label d.pd ≢ 0 → Whence k cpu d → Contains k.delegations.list d ⊎ MayHold shared (after k cpu) (labels_after k label cpu) (label d.pd) d.target
        by_whence d some (Old was) = inl was
        by_whence d some (Newest e its o first objects) = absurd (some (ap label (first.pd ∙ ap (pd_of k) (acts_one k cpu e ec its acts_)) ∙ mute.trusted (pd_of k ec) m))
        by_whence d some (Child e its source was within gives) = absurd (by_gift d source some (as_one d source e ec its acts_ gives))

        -- it waits for its own handlers alone
        own : (handler : ℕ) → edge (after k cpu).contexts ec ≡ Some handler → label (pd_of k handler) ≡ 0
        own handler is =
            let h = handler_there k cpu ec handler t is in
            let still : more k M cpu (pd_of (after k cpu) ec) = inl (subst M (sym (same_pd ec (actor_ec ec acts_))) m) in
            sym (label_kept k label cpu handler t.fits.tables h) ∙ mute_later.trusted (pd_of (after k cpu) handler) (mute_later.leaves ec handler is still)

    -- and it gives a side no capability
    pub gives_none : GivesNone k label cpu
    gives_none ec acts_ trusted d source was kind some gives = by_side (acts_in k S T cpu ec apart acts_)
      where
        by_bare : B (pd_of k ec) → GivesTo k ec source.pd d.pd → ⊥
        by_bare b (TakesOfCaller caller mark state serves g r) = some (ap label (sym r) ∙ trusted)
        by_bare b (RepliesWith caller mark state serves g r) = bare.holds source was kind (subst B g b)
        by_bare b (GivesFirst state g) = bare.firsts ec d.pd state b

        out : GivesTo k ec source.pd d.pd → M source.pd → ⊥
        out g giver = some (mute.trusted d.pd (gift_out s before label S T M B cpu t mute ec source.pd d.pd acts_ g giver))

        by_mute : M (pd_of k ec) → GivesTo k ec source.pd d.pd → ⊥
        by_mute m (TakesOfCaller caller mark state serves g r) = some (ap label (sym r) ∙ trusted)
        by_mute m (RepliesWith caller mark state serves g r) = out (RepliesWith caller mark state serves g r) (subst M g m)
        by_mute m (GivesFirst state g) = out (GivesFirst state g) (subst M g m)

        by_role : (label (pd_of k ec) ≢ 0) ⊎ (B (pd_of k ec) ⊎ M (pd_of k ec)) → ⊥
        by_role (inl sided) = sided trusted
        by_role (inr (inl b)) = by_bare b gives
        by_role (inr (inr m)) = by_mute m gives

        by_side : IsMember k S ec ⊎ IsMember k T ec → ⊥
        by_side (inl m) = by_role (bare.sides (pd_of k ec) (member_pd k S ec m))
        by_side (inr m) = none m.domain m.of

    pub takes : MayTakeTurn shared k label cpu
    takes ec acts_ trusted = by_side (acts_in k S T cpu ec apart acts_)
      where
        by_role : (label (pd_of k ec) ≢ 0) ⊎ (B (pd_of k ec) ⊎ M (pd_of k ec)) → IsCareful shared k label cpu ec
        by_role (inl some) = absurd (some trusted)
        by_role (inr (inl b)) = careful_bare ec acts_ b
        by_role (inr (inr m)) = careful_mute ec acts_ m

        by_side : IsMember k S ec ⊎ IsMember k T ec → IsCareful shared k label cpu ec
        by_side (inl m) = by_role (bare.sides (pd_of k ec) (member_pd k S ec m))
        by_side (inr m) = absurd (none m.domain m.of)

-- TURN AFTER TURN

takes_along : (shared : ℕ → Bool) (s : Scenario) (before turns : List ℕ) (label : ℕ → ℕ) (S T M B : ℕ → Type 0) → AreSeparate (run (boot s) before) S T → ((n : ℕ) → T n → ⊥) → AreBare (run (boot s) before) label S M B →
    AreMute (run (boot s) before) label S M → MayTakeTurns shared (run (boot s) before) label turns
takes_along shared s before [] label S T M B apart none bare mute = tt
takes_along shared s before (cpu ∷ turns) label S T M B apart none bare mute =
    let k = run (boot s) before in
    let t = turn_taken s before cpu in
    let next : run (boot s) (before ++ cpu ∷ []) ≡ after k cpu = run_append (boot s) before (cpu ∷ []) in (
      takes shared s before label S T M B cpu t apart none bare mute,
      subst (λ (l : KernelState). MayTakeTurns shared l (labels_after k label cpu) turns) next
          (takes_along shared s (before ++ cpu ∷ []) turns (labels_after k label cpu) (more k S cpu) (more k T cpu) (more k M cpu) B
          (subst (λ (l : KernelState). AreSeparate l (more k S cpu) (more k T cpu)) (sym next) (separate_after s before S T cpu apart)) (none_after k T cpu none)
          (subst (λ (l : KernelState). AreBare l (labels_after k label cpu) (more k S cpu) (more k M cpu) B) (sym next) (bare_after s before label S T M B cpu t apart none bare mute))
          (subst (λ (l : KernelState). AreMute l (labels_after k label cpu) (more k S cpu) (more k M cpu)) (sym next) (mute_after s before label S T M B cpu t mute apart none bare.sides bare.holds))),
    )

pub harmless_turns : {shared : ℕ → Bool} (s : Scenario) (before turns : List ℕ) (label : ℕ → ℕ) → IsWithinPolicy shared (run (boot s) before) label → AreHarmless (run (boot s) before) label →
    MayTakeTurns shared (run (boot s) before) label turns
harmless_turns {shared} s before turns label policy harmless =
    let k = run (boot s) before in
    let fits = boot_run_fits s before in
    takes_along shared s before turns label (Living k label) Nowhere (IsMute k label) (IsBare k label) (parted k label fits policy harmless) (λ n none. none) (bare_first k label fits policy harmless)
    (mute_first k label fits policy harmless)

pub harmless_within : {shared : ℕ → Bool} (s : Scenario) (before turns : List ℕ) (label : ℕ → ℕ) → IsWithinPolicy shared (run (boot s) before) label → AreHarmless (run (boot s) before) label →
    IsWithinPolicy shared (run (run (boot s) before) turns) (labels (run (boot s) before) label turns)
harmless_within {shared} s before turns label policy harmless = within_along s before turns label policy (harmless_turns s before turns label policy harmless)

powers_along : (shared : ℕ → Bool) (s : Scenario) (before turns : List ℕ) (label : ℕ → ℕ) (S T M B : ℕ → Type 0) → AreSeparate (run (boot s) before) S T → ((n : ℕ) → T n → ⊥) →
    AreBare (run (boot s) before) label S M B → AreMute (run (boot s) before) label S M → IsWithinPolicy shared (run (boot s) before) label → CommandOwn (run (boot s) before) label →
    CommandOwn (run (run (boot s) before) turns) (labels (run (boot s) before) label turns)
powers_along shared s before [] label S T M B apart none bare mute policy own = own
powers_along shared s before (cpu ∷ turns) label S T M B apart none bare mute policy own =
    let k = run (boot s) before in
    let t = turn_taken s before cpu in
    let next : run (boot s) (before ++ cpu ∷ []) ≡ after k cpu = run_append (boot s) before (cpu ∷ []) in
    subst (λ (l : KernelState). CommandOwn (run l turns) (labels l (labels_after k label cpu) turns)) next
    (powers_along shared s (before ++ cpu ∷ []) turns (labels_after k label cpu) (more k S cpu) (more k T cpu) (more k M cpu) B
    (subst (λ (l : KernelState). AreSeparate l (more k S cpu) (more k T cpu)) (sym next) (separate_after s before S T cpu apart)) (none_after k T cpu none)
    (subst (λ (l : KernelState). AreBare l (labels_after k label cpu) (more k S cpu) (more k M cpu) B) (sym next) (bare_after s before label S T M B cpu t apart none bare mute))
    (subst (λ (l : KernelState). AreMute l (labels_after k label cpu) (more k S cpu) (more k M cpu)) (sym next) (mute_after s before label S T M B cpu t mute apart none bare.sides bare.holds))
    (subst (λ (l : KernelState). IsWithinPolicy shared l (labels_after k label cpu)) (sym next) (policy_after k label cpu t policy (takes shared s before label S T M B cpu t apart none bare mute)))
    (subst (λ (l : KernelState). CommandOwn l (labels_after k label cpu)) (sym next) (powers_after k label cpu t policy own (gives_none shared s before label S T M B cpu t apart none bare mute))))

pub harmless_powers : {shared : ℕ → Bool} (s : Scenario) (before turns : List ℕ) (label : ℕ → ℕ) → IsWithinPolicy shared (run (boot s) before) label → AreHarmless (run (boot s) before) label →
    CommandOwn (run (boot s) before) label → CommandOwn (run (run (boot s) before) turns) (labels (run (boot s) before) label turns)
harmless_powers {shared} s before turns label policy harmless own =
    let k = run (boot s) before in
    let fits = boot_run_fits s before in
    powers_along shared s before turns label (Living k label) Nowhere (IsMute k label) (IsBare k label) (parted k label fits policy harmless) (λ n none. none) (bare_first k label fits policy harmless)
    (mute_first k label fits policy harmless) policy own
