-- A bare domain stays bare over turns of sides, bare and mute domains: it comes to hold no capability of an object, to wait for none, and to serve no
-- caller that called.
use Rattle.std.proofs.Common.{◌≡◌, ◌≢◌, ◌⊎◌, ◌<◌, ℕ, List, length, refl, sym, ap, ◌∙◌, subst, inl, inr, arith}
use Rattle.std.specs.Prelude.{Bool, true, false, Contains, IfSome, is_some, slice_get, Option, Some, None, option_map}
use Rattle.std.proofs.lemmas.Option.{same_Some, slice_get_within}
use Rattle.nova_objects.specs.declared.object.Object.{Object}
use Rattle.nova_objects.specs.declared.object.Object.TheVariants.{Pd, Ec, Sc, Pt, Sm}
use Rattle.nova_range.specs.Rights.{allows}
use Rattle.nova_range.specs.declared.rights.Rights.{Rights}
use Rattle.nova_range.specs.declared.range.Kind.TheVariants.{Obj}
use Rattle.nova_model.specs.Boot.{Scenario, boot}
use Rattle.nova_model.specs.Capabilities.{bind_portal_right, call_right, create_right}
use Rattle.nova_model.specs.Choice.{Candidate, next_to_act}
use Rattle.nova_model.specs.Deeds.{resumed}
use Rattle.nova_model.specs.Edges.{edge}
use Rattle.nova_model.specs.Runs.{after, run}
use Rattle.nova_model.specs.State.{KernelState, context, context_at, context_in, message, pd_in, pd_of}
use Rattle.nova_model.specs.declared.context.EcState.{EcState}
use Rattle.nova_model.specs.declared.context.Mark.{Mark}
use Rattle.nova_model.specs.declared.context.Mark.TheVariants.{Call, Exit}
use Rattle.nova_model.specs.declared.context.State.{State}
use Rattle.nova_model.specs.declared.context.State.TheVariants.{Granting}
use Rattle.nova_model.specs.declared.delegation.Derivation.{Derivation}
use Rattle.nova_model.specs.declared.times.Due.{Due}
use Rattle.nova_model.specs.Forest.{IsWithin}
use Rattle.law_forest.specs.Made.{GivesChild, Grows, GrowsBy, IsFirstCapability, Leaves, MakesObject, MayCreate, TakesLeaf}
use Rattle.law_forest.specs.Turns.{Idles as Stays, Takes as Turns, Acts as Chosen, Passes as Comes, turned}
use Rattle.law_forest.proofs.Growth.{turn_grows}
use Rattle.law_forest.proofs.Turning.{comes}
use Rattle.law_turns.specs.Links.{caller_at, state_at}
use Rattle.law_turns.specs.Tables.{Refers}
use Rattle.law_turns.proofs.Serving.{awaited}
use Rattle.law_turns.proofs.TablesFit.{boot_run_fits}
use Rattle.law_origins.specs.Giving.{Acts}
use Rattle.law_origins.proofs.Coming.{came}
use Rattle.law_origins.proofs.Origins.{opened_now}
use Rattle.law_integrity.specs.Confined.{AreSeparate, IsMember, more}
use Rattle.law_integrity.specs.Integrity.{Called, ContextBy, ContextByTime, ExitSent, IsBorn, IsByTime, Itself, NewContext, Recalled, Resumed, RungAwake, TimedOut, Woken}
use Rattle.law_integrity.specs.Rights.{CallsAt, ExitsAt, GivesFirst, GivesTo, RepliesWith, TakesOfCaller}
use Rattle.law_integrity.specs.Trusted.{labels_after}
use Rattle.law_integrity.proofs.Authorised.{authorised_by}
use Rattle.law_integrity.proofs.Confining.{Child, Newest, Old, Whence, acting_one, child_target, gives_in, member_pd, newest_object, not_next, object_kept, order_none, waits_edge, whence}
use Rattle.law_integrity.proofs.Edges.{at_index, edge_came}
use Rattle.law_integrity.proofs.Homes.{receiver_there}
use Rattle.law_integrity.proofs.Labels.{IsEc, IsTaken, context_ec, edge_ec, labels_made, labels_old, local_ec}
use Rattle.law_integrity.proofs.Passing.{due_in, turned_by_time}
use Rattle.law_integrity.proofs.Resting.{acts_in}
use Rattle.law_sides.proofs.Entries.{as_member, grant_there}
use Rattle.law_sides.proofs.Muted.{AreMute, calls_own, gift_out}

-- WHAT IS MADE

-- a context that makes an object may create
pub made_by : (k : KernelState) (cpu ec : ℕ) (o : Object) → Acts k cpu ec → slice_get (after k cpu).objects (length k.objects) ≡ Some o → MayCreate k (pd_of k ec)
made_by k cpu ec o acts_ is = by_choice (next_to_act k cpu) refl (turn_grows k cpu)
  where
    none : (os : List Object) → slice_get os (length os) ≡ Some o → ⊥
    none os at = let within = slice_get_within os (length os) o at in omega (arith, within)

    was : (after k cpu).objects ≡ k.objects → MayCreate k (pd_of k ec)
    was same = absurd (none k.objects (ap (λ (os : List Object). slice_get os (length k.objects)) (sym same) ∙ is))

    by_growth : (e : ℕ) → e ≡ ec → Grows k e (after k cpu) → MayCreate k (pd_of k ec)
    by_growth e one (Leaves h) = was h.objects
    by_growth e one (GivesChild h) = was h.objects
    by_growth e one (TakesLeaf h) = was h.objects
    by_growth e one (MakesObject h) = subst (MayCreate k) (h.first.pd ∙ ap (pd_of k) one) h.first.creator

    by_choice : (o : Option Candidate) → next_to_act k cpu ≡ o → GrowsBy k o (after k cpu) → MayCreate k (pd_of k ec)
    by_choice None at grows = was grows.objects
    by_choice (Some c) at grows = by_growth c.actor (same_Some c.actor ec (ap (option_map (λ (x : Candidate). x.actor)) (sym at) ∙ acts_)) grows

-- WHICH CALLER IS SERVED

-- a handler that serves a caller that called did so before, or is called now
pub called_now : (s : Scenario) (before : List ℕ) (cpu n c : ℕ) → (context (after (run (boot s) before) cpu) n).caller ≡ Some (c, Call) →
    ((context (run (boot s) before) n).caller ≡ Some (c, Call)) ⊎ (Acts (run (boot s) before) cpu c × CallsAt (run (boot s) before) c n)
called_now s before cpu n c is = elim (comes k cpu) [
  | Stays none quiet same answer ↦ inl (ap (λ (l : KernelState). (context l n).caller) (sym same) ∙ is)
  | Turns t e takes state answer ↦ elim takes [
    | Chosen d chosen its event ↦
        let acts_ : Acts k cpu d.actor = ap (option_map (λ (x : Candidate). x.actor)) chosen in
        let right = authorised_by s before cpu d.actor acts_ in
        by_right d.actor acts_ (right.2.contexts n)
    | Comes p passes its event ↦
        let right : IsByTime k (after k cpu) cpu (due_in p) = subst (λ (l : KernelState). IsByTime k l cpu (due_in p)) (sym (state ∙ ap (turned k cpu) its)) (turned_by_time k cpu p passes (boot_run_fits s before)) in
        by_time (due_in p) (right.contexts n)
  ]
]
  where
    k : KernelState
    k = run (boot s) before

    Its : Type 0
    Its = ((context k n).caller ≡ Some (c, Call)) ⊎ (Acts k cpu c × CallsAt k c n)

    same_caller : (x y : EcState) → context_at k n ≡ Some x → context_at (after k cpu) n ≡ Some y → y.caller ≡ x.caller → Its
    same_caller x y old new same =
        inl (ap (λ (o : Option EcState). (context_in o).caller) old ∙ sym same ∙ sym (ap (λ (o : Option EcState). (context_in o).caller) new) ∙ is)

    now : (y : EcState) → context_at (after k cpu) n ≡ Some y → y.caller ≡ Some (c, Call)
    now y new = sym (ap (λ (o : Option EcState). (context_in o).caller) new) ∙ is

    resumed_same : (mark : Mark) (x : EcState) (m : List ℕ) → (resumed x mark m).caller ≡ x.caller
    resumed_same Call x m = refl
    resumed_same Exit x m = refl

    born : (o : Option EcState) → context_at (after k cpu) n ≡ o → IfSome o (IsBorn n) → Its
    born None new b = absurd (let none : (context_in None).caller ≡ Some (c, Call) = ap (λ (o : Option EcState). (context_in o).caller) (sym new) ∙ is in cc)
    born (Some y) new b = absurd (let two : None ≡ Some (c, Call) = sym b.caller ∙ now y new in cc)

    by_change : (ec : ℕ) → Acts k cpu ec → ContextBy k ec n (message (after k cpu) ec) (context_at k n) (context_at (after k cpu) n) → Its
    by_change ec acts_ (Itself same x y old new own) = elim own.caller [
      | inl kept ↦ same_caller x y old new kept
      | inr gone ↦ absurd (let two : None ≡ Some (c, Call) = sym gone.0 ∙ now y new in cc)
    ]
    by_change ec acts_ (Called by x old parked new) =
        let pair : (ec, Call) ≡ (c, Call) = same_Some (ec, Call) (c, Call) (now _ new) in
        let one : ec ≡ c = ap (λ (p : ℕ × Mark). p.0) pair in
        inr (subst (Acts k cpu) one acts_, subst (λ (m : ℕ). CallsAt k m n) one by)
    by_change ec acts_ (ExitSent by x old parked new) =
        absurd (let pair : (ec, Exit) ≡ (c, Call) = same_Some (ec, Exit) (c, Call) (now _ new) in let mark : Exit ≡ Call = ap (λ (p : ℕ × Mark). p.1) pair in cc)
    by_change ec acts_ (Resumed mark serves x old waits new) = same_caller x _ old new (resumed_same mark x _)
    by_change ec acts_ (Recalled names x old new) = same_caller x _ old new refl
    by_change ec acts_ (Woken sm names rest waiting x old blocked new) = same_caller x _ old new refl
    by_change ec acts_ (NewContext next b) = born (context_at (after k cpu) n) refl b

    by_right : (ec : ℕ) → Acts k cpu ec → (context_at (after k cpu) n ≡ context_at k n) ⊎ ContextBy k ec n (message (after k cpu) ec) (context_at k n) (context_at (after k cpu) n) → Its
    by_right ec acts_ (inl same) = inl (ap (λ (o : Option EcState). (context_in o).caller) (sym same) ∙ is)
    by_right ec acts_ (inr by) = by_change ec acts_ by

    by_time : (what : Option Due) → (context_at (after k cpu) n ≡ context_at k n) ⊎ ContextByTime k what n (context_at k n) (context_at (after k cpu) n) → Its
    by_time what (inl same) = inl (ap (λ (o : Option EcState). (context_in o).caller) (sym same) ∙ is)
    by_time what (inr (RungAwake alarm a due_ there rest first x old blocked new)) = same_caller x _ old new refl
    by_time what (inr (TimedOut d due_ has x old blocked new)) = same_caller x _ old new refl

-- BARE DOMAINS

-- a side's rights to what is a bare domain's
abbrev pub IsWeak : KernelState → (ℕ → Type 0) → Rights → ℕ → Option Object → Type 0
IsWeak k B rights n (Some Pd) = B n → allows rights create_right ≡ false
IsWeak k B rights n (Some (Ec pd cpu kind event)) = B pd → allows rights bind_portal_right ≡ false
IsWeak k B rights n (Some (Pt handler mtd ip)) = B (pd_of k handler) → allows rights call_right ≡ false
IsWeak k B rights n other = Unit {0}

-- the domains of B are bare: of those S that may act all others are sides, or mute, M
pub record AreBare (k : KernelState) (label : ℕ → ℕ) (S M B : ℕ → Type 0) : Type 0 where
  pub sides : (n : ℕ) → S n → (label n ≢ 0) ⊎ (B n ⊎ M n)
  pub apart : (n : ℕ) → B n → M n → ⊥
  pub there : (n : ℕ) → B n → slice_get k.objects n ≡ Some Pd
  pub within : (n : ℕ) → B n → S n
  pub trusted : (n : ℕ) → B n → label n ≡ 0
  pub holds : (d : Derivation) → Contains k.delegations.list d → d.kind ≡ Obj → B d.pd → ⊥
  pub weak : (d : Derivation) → Contains k.delegations.list d → d.kind ≡ Obj → label d.pd ≢ 0 → IsWeak k B d.rights d.target (slice_get k.objects d.target)
  pub edges : (ec handler : ℕ) → edge k.contexts ec ≡ Some handler → B (pd_of k ec) → ⊥
  pub firsts : (ec new : ℕ) → (context k ec).state ≡ Granting (Some new) → B (pd_of k ec) → ⊥
  pub given : (ec new : ℕ) → (context k ec).state ≡ Granting (Some new) → B new → ⊥
  pub callers : (ec caller : ℕ) → (context k ec).caller ≡ Some (caller, Call) → B (pd_of k ec) → ⊥

module _ (s : Scenario) (before : List ℕ) (label : ℕ → ℕ) (S T M B : ℕ → Type 0) (cpu : ℕ) where
  abbrev pub k : KernelState
  k = run (boot s) before

  abbrev pub new : KernelState
  new = after (run (boot s) before) cpu

  module _ (t : IsTaken k cpu) (apart : AreSeparate k S T) (none : (n : ℕ) → T n → ⊥) (bare : AreBare k label S M B) (mute : AreMute k label S M) where
    -- a domain, an execution context and a holder that were there
    below : (n : ℕ) → B n → n < length k.objects
    below n b = slice_get_within k.objects n Pd (bare.there n b)

    was_domain : (ec : ℕ) → IsEc k ec → pd_of new ec ≡ pd_of k ec
    was_domain ec m = ap pd_in (object_kept k cpu ec (Ec m.domain m.cpu m.kind m.event) m.object) ∙ sym (ap pd_in m.object)

    was_bare : (ec : ℕ) → IsEc k ec → B (pd_of new ec) → B (pd_of k ec)
    was_bare ec m b = subst B (was_domain ec m) b

    actor_ec : (ec : ℕ) → Acts k cpu ec → IsEc k ec
    actor_ec ec acts_ = context_ec k ec t.fits.tables (ap (λ (o : Option EcState). is_some o) (acting_one k cpu ec acts_).there)

    holder_below : (d : Derivation) → Contains k.delegations.list d → d.pd < length k.objects
    holder_below d there = slice_get_within k.objects d.pd Pd (t.homed.holders d there)

    no_maker : (ec : ℕ) → MayCreate k (pd_of k ec) → B (pd_of k ec) → ⊥
    no_maker ec may b = bare.holds may.capability may.there may.kind (subst B (sym may.held) b)

    no_portal : (ec handler : ℕ) → CallsAt k ec handler ⊎ ExitsAt k ec handler → B (pd_of k ec) → ⊥
    no_portal ec handler (inl c) b = bare.holds c.held.at.capability c.held.at.held.there c.held.at.held.kind (subst B (sym c.held.at.held.holder) b)
    no_portal ec handler (inr c) b = bare.holds c.held.capability c.held.held.there c.held.held.kind (subst B (sym c.held.held.holder) b)

    -- WHICH CONTEXT GIVES

    -- a bare domain is given no object, and gives none
    not_received : (ec giver receiver : ℕ) → Acts k cpu ec → GivesTo k ec giver receiver → B receiver → ⊥
    not_received ec giver receiver acts_ (TakesOfCaller caller mark state serves g r) b =
        let actor = acting_one k cpu ec acts_ in
        let called : mark ≡ Call = (t.sound.kept.served.well ec).taking caller mark (ap caller_at actor.there ∙ serves) (ap state_at actor.there ∙ ap (λ (q : State). Some q) state) in
        bare.callers ec caller (serves ∙ ap (λ (m : Mark). Some (caller, m)) called) (subst B (sym r) b)
    not_received ec giver receiver acts_ (RepliesWith caller mark state serves g r) b =
        let actor = acting_one k cpu ec acts_ in
        bare.edges caller ec (waits_edge k caller ec (awaited _ k.contexts ec caller mark actor serves t.sound.kept.served).waits) (subst B (sym r) b)
    not_received ec giver receiver acts_ (GivesFirst state g) b = bare.given ec receiver state b

    holds_after : (d : Derivation) → Contains new.delegations.list d → d.kind ≡ Obj → B d.pd → ⊥
    holds_after d there kind b = by_whence (whence k cpu d t.sound.forest there)
      where
        by_whence : Whence k cpu d → ⊥
        by_whence (Old was) = bare.holds d was kind b
        by_whence (Newest ec acts_ o first objects) = bare.holds first.creator.capability first.creator.there first.creator.kind (subst B (sym first.creator.held) b)
        by_whence (Child ec acts_ source was within gives) = not_received ec source.pd d.pd acts_ gives b

    -- WHAT SIDES HOLD OF IT

    target_there : (d : Derivation) → Contains k.delegations.list d → d.kind ≡ Obj → (o : Object) × (slice_get k.objects d.target ≡ Some o)
    target_there d was kind = t.homed.targets d was kind

    weak_kept : (d : Derivation) (o : Object) → slice_get k.objects d.target ≡ Some o → IsWeak k B d.rights d.target (Some o) → IsWeak new B d.rights d.target (Some o)
    weak_kept d Pd at w = w
    weak_kept d (Ec pd its kind event) at w = w
    weak_kept d (Sc donor its priority quantum) at w = tt
    weak_kept d (Pt handler mtd ip) at w =
        λ b. w (was_bare handler (local_ec k handler (at_index (Refers k.objects) k.objects d.target (Pt handler mtd ip) t.fits.tables.refer at)) b)
    weak_kept d Sm at w = tt

    less : (rights more_ : Rights) (right : ℕ) → ((r : ℕ) → allows rights r ≡ true → allows more_ r ≡ true) → allows more_ right ≡ false → allows rights right ≡ false
    less rights more_ right within off = by_test (allows rights right) refl
      where
        by_test : (b : Bool) → allows rights right ≡ b → allows rights right ≡ false
        by_test true is = absurd (let both : true ≡ false = sym (within right is) ∙ off in cc)
        by_test false is = is

    weak_child : (d source : Derivation) (n : ℕ) (o : Option Object) → IsWithin d source → IsWeak k B source.rights n o → IsWeak k B d.rights n o
    weak_child d source n (Some Pd) within w = λ b. less d.rights source.rights create_right within.rights (w b)
    weak_child d source n (Some (Ec pd its kind event)) within w = λ b. less d.rights source.rights bind_portal_right within.rights (w b)
    weak_child d source n (Some (Sc donor its priority quantum)) within w = tt
    weak_child d source n (Some (Pt handler mtd ip)) within w = λ b. less d.rights source.rights call_right within.rights (w b)
    weak_child d source n (Some Sm) within w = tt
    weak_child d source n None within w = tt

    -- a new object of a side's is none of a bare domain's
    not_both : (rights : Rights) (right : ℕ) → allows rights right ≡ true → allows rights right ≡ false → ⊥
    not_both rights right on off = let both : true ≡ false = sym on ∙ off in cc

    weak_at : (d : Derivation) (n : ℕ) (o : Object) → Contains k.delegations.list d → d.kind ≡ Obj → label d.pd ≢ 0 → d.target ≡ n → slice_get k.objects n ≡ Some o → IsWeak k B d.rights n (Some o)
    weak_at d n o there kind some to at =
        subst (IsWeak k B d.rights n) at (subst (λ (m : ℕ). IsWeak k B d.rights m (slice_get k.objects m)) to (bare.weak d there kind some))

    weak_made : (ec : ℕ) (d : Derivation) (o : Object) → IsFirstCapability k ec o d → label d.pd ≢ 0 → slice_get new.objects d.target ≡ Some o → IsWeak new B d.rights d.target (Some o)
    weak_made ec d Pd first some is = λ b. absurd (not_next k d.target (bare.there d.target b) first.target)
    weak_made ec d (Ec pd its kind event) first some is =
        let c = first.creator in
        λ b. absurd (not_both c.capability.rights create_right c.create
        (weak_at c.capability c.capability.target Pd c.there c.kind (λ none. some (ap label (sym c.held) ∙ none)) refl c.leads (subst B first.place b)))
    weak_made ec d (Sc donor its priority quantum) first some is = tt
    weak_made ec d (Pt handler mtd ip) first some is =
        let c = first.bound in
        let m = local_ec k handler c.leads in
        λ b. absurd (not_both c.capability.rights bind_portal_right c.allowed
        (weak_at c.capability handler (Ec m.domain m.cpu m.kind m.event) c.there c.kind (λ none. some (ap label (sym c.held) ∙ none)) c.target m.object
        (subst B (ap pd_in m.object) (was_bare handler m b))))
    weak_made ec d Sm first some is = tt

    giver_sided : (ec giver receiver : ℕ) → Acts k cpu ec → GivesTo k ec giver receiver → label receiver ≢ 0 → (label giver ≢ 0) ⊎ B giver
    giver_sided ec giver receiver acts_ gives some = by_side (acts_in k S T cpu ec apart acts_)
      where
        by_giver : (label giver ≢ 0) ⊎ (B giver ⊎ M giver) → (label giver ≢ 0) ⊎ B giver
        by_giver (inl its) = inl its
        by_giver (inr (inl b)) = inr b
        by_giver (inr (inr m)) = absurd (some (mute.trusted receiver (gift_out s before label S T M B cpu t mute ec giver receiver acts_ gives m)))

        by_side : IsMember k S ec ⊎ IsMember k T ec → (label giver ≢ 0) ⊎ B giver
        by_side (inl m) = by_giver (bare.sides giver (gives_in k S ec giver receiver t.sound apart.first (acting_one k cpu ec acts_) m gives).0)
        by_side (inr m) = absurd (none m.domain m.of)

    weak_after : (d : Derivation) → Contains new.delegations.list d → d.kind ≡ Obj → labels_after k label cpu d.pd ≢ 0 → IsWeak new B d.rights d.target (slice_get new.objects d.target)
    weak_after d there kind some = by_whence (whence k cpu d t.sound.forest there)
      where
        was_side : d.pd < length k.objects → label d.pd ≢ 0
        was_side within none = some (labels_old k label cpu d.pd within ∙ none)

        kept : (e : Derivation) → Contains k.delegations.list e → e.kind ≡ Obj → e.target ≡ d.target → IsWeak k B d.rights d.target (slice_get k.objects d.target) → IsWeak new B d.rights d.target (slice_get new.objects d.target)
        kept e was its same w =
            let o = target_there e was its in
            let at : slice_get k.objects d.target ≡ Some o.0 = ap (slice_get k.objects) (sym same) ∙ o.1 in
            subst (IsWeak new B d.rights d.target) (sym (object_kept k cpu d.target o.0 at)) (weak_kept d o.0 at (subst (IsWeak k B d.rights d.target) at w))

        by_giver : (source : Derivation) → Contains k.delegations.list source → IsWithin d source → (label source.pd ≢ 0) ⊎ B source.pd → IsWeak new B d.rights d.target (slice_get new.objects d.target)
        by_giver source was within (inl sided) =
            let its : source.kind ≡ Obj = sym within.kind ∙ kind in
            let same : d.target ≡ source.target = child_target d source its (order_none k source t.sound.forest was its) within in
            kept source was its (sym same) (weak_child d source d.target (slice_get k.objects d.target) within
            (subst (λ (n : ℕ). IsWeak k B source.rights n (slice_get k.objects n)) (sym same) (bare.weak source was its sided)))
        by_giver source was within (inr b) = absurd (bare.holds source was (sym within.kind ∙ kind) b)

        by_whence : Whence k cpu d → IsWeak new B d.rights d.target (slice_get new.objects d.target)
        by_whence (Old was) = kept d was kind refl (bare.weak d was kind (was_side (holder_below d was)))
        by_whence (Newest ec acts_ o first objects) =
            let c = first.creator in
            let within : d.pd < length k.objects = subst (λ (n : ℕ). n < length k.objects) c.held (holder_below c.capability c.there) in
            let is : slice_get new.objects d.target ≡ Some o = ap (slice_get new.objects) first.target ∙ newest_object k cpu o objects in
            subst (IsWeak new B d.rights d.target) (sym is) (weak_made ec d o first (was_side within) is)
        by_whence (Child ec acts_ source was within gives) =
            let there_ : d.pd < length k.objects = slice_get_within k.objects d.pd Pd (receiver_there k ec source.pd d.pd t.sound t.homed (acting_one k cpu ec acts_) gives) in
            by_giver source was within (giver_sided ec source.pd d.pd acts_ gives (was_side there_))

    -- WHAT ITS EXECUTION CONTEXTS DO

    edges_after : (ec handler : ℕ) → edge new.contexts ec ≡ Some handler → B (pd_of new ec) → ⊥
    edges_after ec handler is b = elim (edge_came k cpu ec handler t.rightful is) [
      | inl was ↦ bare.edges ec handler was (was_bare ec (edge_ec k ec handler t.fits.tables was) b)
      | inr now ↦ no_portal ec handler now.1 (was_bare ec (actor_ec ec now.0) b)
    ]

    firsts_after : (ec domain : ℕ) → (context new ec).state ≡ Granting (Some domain) → B (pd_of new ec) → ⊥
    firsts_after ec domain is b = elim (came k cpu ec (Granting (Some domain)) tt is) [
      | inl was ↦ let x = grant_there k ec (Some domain) was in bare.firsts ec domain was (was_bare ec (context_ec k ec t.fits.tables (ap (λ (o : Option EcState). is_some o) x.1)) b)
      | inr now ↦
          let opened = opened_now k cpu ec domain now.0 now.1 in
          no_maker ec (made_by k cpu ec Pd now.0 (ap (slice_get new.objects) opened.0 ∙ opened.1)) (was_bare ec (actor_ec ec now.0) b)
    ]

    given_after : (ec domain : ℕ) → (context new ec).state ≡ Granting (Some domain) → B domain → ⊥
    given_after ec domain is b = elim (came k cpu ec (Granting (Some domain)) tt is) [
      | inl was ↦ bare.given ec domain was b
      | inr now ↦ not_next k domain (bare.there domain b) (sym (opened_now k cpu ec domain now.0 now.1).0)
    ]

    -- a context that calls its handler holds a portal to it, with the right to call
    not_called : (ec c : ℕ) → Acts k cpu c → CallsAt k c ec → B (pd_of k ec) → ⊥
    not_called ec c acts_ by b = by_side (acts_in k S T cpu c apart acts_)
      where
        capability : Derivation
        capability = by.held.at.capability

        by_label : (label (pd_of k c) ≢ 0) ⊎ (B (pd_of k c) ⊎ M (pd_of k c)) → ⊥
        by_label (inl some) =
            not_both capability.rights call_right by.held.at.allowed
            (weak_at capability by.portal (Pt ec by.mtd by.ip) by.held.at.held.there by.held.at.held.kind (λ none. some (ap label (sym by.held.at.held.holder) ∙ none)) by.held.at.leads by.object b)
        by_label (inr (inl its)) = no_portal c ec (inl by) its
        by_label (inr (inr m)) = bare.apart (pd_of k ec) b (calls_own s before label S T M B cpu t mute c ec (inl by) m)

        by_side : IsMember k S c ⊎ IsMember k T c → ⊥
        by_side (inl m) = by_label (bare.sides (pd_of k c) (member_pd k S c m))
        by_side (inr m) = none m.domain m.of

    caller_there : (ec c : ℕ) → (context k ec).caller ≡ Some (c, Call) → is_some (context_at k ec) ≡ true
    caller_there ec c is = by_entry (context_at k ec) is
      where
        by_entry : (o : Option EcState) → (context_in o).caller ≡ Some (c, Call) → is_some o ≡ true
        by_entry None at = absurd (cc)
        by_entry (Some x) at = refl

    callers_after : (ec c : ℕ) → (context new ec).caller ≡ Some (c, Call) → B (pd_of new ec) → ⊥
    callers_after ec c is b = elim (called_now s before cpu ec c is) [
      | inl was ↦ bare.callers ec c was (was_bare ec (context_ec k ec t.fits.tables (caller_there ec c was)) b)
      | inr now ↦ not_called ec c now.0 now.1
          (was_bare ec (local_ec k ec (at_index (Refers k.objects) k.objects now.1.portal (Pt ec now.1.mtd now.1.ip) t.fits.tables.refer now.1.object)) b)
    ]

    pub bare_after : AreBare new (labels_after k label cpu) (more k S cpu) (more k M cpu) B
    bare_after = record {
      sides = λ n m. sides n m;
      apart = apart_after;
      there = λ n b. object_kept k cpu n Pd (bare.there n b);
      within = λ n b. inl (bare.within n b);
      trusted = λ n b. labels_old k label cpu n (below n b) ∙ bare.trusted n b;
      holds = holds_after;
      weak = weak_after;
      edges = edges_after;
      firsts = firsts_after;
      given = given_after;
      callers = callers_after;
    }
      where
        sides : (n : ℕ) → more k S cpu n → (labels_after k label cpu n ≢ 0) ⊎ (B n ⊎ more k M cpu n)
        sides n (inl m) = elim (bare.sides n m) [
          | inl some ↦ inl (λ none_. some (sym (labels_old k label cpu n (slice_get_within k.objects n Pd (apart.first.there n m))) ∙ none_))
          | inr trusted ↦ elim trusted [
            | inl b ↦ inr (inl b)
            | inr its ↦ inr (inr (inl its))
          ]
        ]
        sides n (inr made) = elim (bare.sides (pd_of k made.maker) (member_pd k S made.maker made.of)) [
          | inl some ↦ inl (λ none_. some (sym (labels_made k label cpu made.maker made.acts) ∙ sym (ap (labels_after k label cpu) made.number) ∙ none_))
          | inr trusted ↦ elim trusted [
            | inl b ↦ absurd (no_maker made.maker (made_by k cpu made.maker Pd made.acts (ap (slice_get new.objects) (sym made.number) ∙ made.made)) b)
            | inr its ↦ inr (inr (inr (record { maker = made.maker; acts = made.acts; of = as_member k M made.maker (actor_ec made.maker made.acts) its; number = made.number; made = made.made })))
          ]
        ]

        apart_after : (n : ℕ) → B n → more k M cpu n → ⊥
        apart_after n b (inl m) = bare.apart n b m
        apart_after n b (inr made) = not_next k n (bare.there n b) made.number
