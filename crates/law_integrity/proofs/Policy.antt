-- A policy of sides and trusted domains after a turn: it holds on, and a side touches nothing of another side.
use Rattle.std.proofs.Common.{◌≡◌, ◌<◌, ℕ, ◌⊎◌, zero, suc, length, refl, sym, ap, ◌∙◌, subst, inl, inr, arith}
use Rattle.std.specs.Prelude.{◌≢◌, Bool, true, false, Contains, is_some, slice_get, Option, Some, None, option_and_then, option_map}
use Rattle.std.proofs.lemmas.Option.{same_Some, slice_get_within}
use Rattle.nova_objects.specs.declared.object.EcKind.TheVariants.{Global, Local, Vcpu}
use Rattle.nova_objects.specs.declared.object.Object.{Object}
use Rattle.nova_objects.specs.declared.object.Object.TheVariants.{Pd, Ec, Sc, Pt, Sm}
use Rattle.nova_range.specs.declared.range.Kind.TheVariants.{Obj}
use Rattle.nova_model.specs.Edges.{after_edges, edge, is_dead}
use Rattle.nova_model.specs.Forest.{IsWithin}
use Rattle.nova_model.specs.Runs.{after}
use Rattle.nova_model.specs.State.{KernelState, context, context_at, context_in, is_local_in, is_local_thread, pd_of}
use Rattle.nova_model.specs.declared.context.EcState.{EcState}
use Rattle.nova_model.specs.declared.context.Mark.{Mark}
use Rattle.nova_model.specs.declared.context.State.{State}
use Rattle.nova_model.specs.declared.context.State.TheVariants.{Blocked, Calling, Dead, Granting}
use Rattle.nova_model.specs.declared.delegation.Derivation.{Derivation}
use Rattle.law_forest.specs.Made.{IsFirstCapability}
use Rattle.law_isolation.specs.Sound.{IsSound}
use Rattle.nova_model.specs.Capabilities.{is_local}
use Rattle.law_turns.specs.Tables.{IsOf}
use Rattle.law_turns.specs.Links.{caller_at, state_at}
use Rattle.law_turns.proofs.Links.{place}
use Rattle.law_turns.proofs.Serving.{IsActor, awaited}
use Rattle.law_origins.specs.Giving.{Acts}
use Rattle.law_origins.proofs.Coming.{came}
use Rattle.law_origins.proofs.Origins.{opened_now}
use Rattle.law_integrity.specs.Confined.{IsMember, IsOwned}
use Rattle.law_integrity.specs.Rights.{AsksDown, CallsAt, ExitsAt, GivesFirst, GivesTo, Names, RepliesWith, TakesOfCaller}
use Rattle.law_integrity.specs.Trusted.{IsWithinPolicy, Labelled, MayHold, MayTakeTurn, MayWait, OrTrusted, labels_after}
use Rattle.law_integrity.specs.Waits.{HasLocalEdges}
use Rattle.law_integrity.proofs.Blocked.{Before, Begins, BlockedBy, Now, TakesBy, Took}
use Rattle.law_integrity.proofs.Confining.{Child, Newest, Old, Whence, acting_one, acts_one, child_target, local_member, member_pd, newest_object, object_kept, order_none, schedulable_member, waits_edge, whence}
use Rattle.law_integrity.proofs.Edges.{edge_came, handler_local}
use Rattle.law_integrity.proofs.Homes.{receiver_there}
use Rattle.law_integrity.proofs.Labels.{IsEc, IsTaken, blocked_object, context_ec, edge_ec, label_kept, labels_made, labels_old, local_ec, or_kept, or_member, owned_kept}
use Rattle.law_integrity.proofs.Leaving.{IsClear}

-- WHAT A SIDE HOLDS, AND TO WHOM IT GIVES

-- what is held in the domain of one of a side
held_may : {shared : ℕ → Bool} (k : KernelState) (label : ℕ → ℕ) (ec : ℕ) (c : Derivation) → IsWithinPolicy shared k label → label (pd_of k ec) ≢ 0 → Contains k.delegations.list c → c.kind ≡ Obj → c.pd ≡ pd_of k ec →
    MayHold shared k label (label (pd_of k ec)) c.target
held_may {shared} k label ec c policy side there kind holder =
    subst (λ (n : ℕ). MayHold shared k label (label n) c.target) holder (policy.capabilities c there kind (λ none. side (ap label (sym holder) ∙ none)))

held_owned : {shared : ℕ → Bool} (k : KernelState) (label : ℕ → ℕ) (ec : ℕ) (c : Derivation) (n : ℕ) (o : Object) → IsWithinPolicy shared k label → label (pd_of k ec) ≢ 0 → Contains k.delegations.list c → c.kind ≡ Obj →
    c.pd ≡ pd_of k ec → c.target ≡ n → slice_get k.objects n ≡ Some o → IsOwned k (OrTrusted label (label (pd_of k ec))) n (Some o)
held_owned {shared} k label ec c n o policy side there kind holder target is =
    subst (IsOwned k (OrTrusted label (label (pd_of k ec))) n) is
    (subst (λ (t : ℕ). IsOwned k (OrTrusted label (label (pd_of k ec))) t (slice_get k.objects t)) target (held_may k label ec c policy side there kind holder).leads)

called_by : {shared : ℕ → Bool} (k : KernelState) (label : ℕ → ℕ) (ec handler : ℕ) → IsWithinPolicy shared k label → label (pd_of k ec) ≢ 0 → CallsAt k ec handler ⊎ ExitsAt k ec handler →
    IsMember k (OrTrusted label (label (pd_of k ec))) handler
called_by {shared} k label ec handler policy side (inl c) =
    held_owned k label ec c.held.at.capability c.portal (Pt handler c.mtd c.ip) policy side c.held.at.held.there c.held.at.held.kind c.held.at.held.holder c.held.at.leads c.object
called_by {shared} k label ec handler policy side (inr c) =
    held_owned k label ec c.held.capability c.portal (Pt handler c.mtd c.ip) policy side c.held.held.there c.held.held.kind c.held.held.holder c.held.leads c.object

-- whom one of a side serves is of the side, or trusted
served_label : {shared : ℕ → Bool} (k : KernelState) (label : ℕ → ℕ) (ec caller : ℕ) (mark : Mark) → IsSound k → IsWithinPolicy shared k label → IsActor k.contexts ec → label (pd_of k ec) ≢ 0 →
    (context k ec).caller ≡ Some (caller, mark) → OrTrusted label (label (pd_of k ec)) (pd_of k caller)
served_label {shared} k label ec caller mark sound policy actor side serves =
    by_waits (policy.edges caller ec (waits_edge k caller ec (awaited _ k.contexts ec caller mark actor serves sound.kept.served).waits) side)
  where
    by_waits : MayWait k label (label (pd_of k ec)) caller → OrTrusted label (label (pd_of k ec)) (pd_of k caller)
    by_waits (inl same) = inl same
    by_waits (inr client) = inr client.0

pub side_gives : {shared : ℕ → Bool} (k : KernelState) (label : ℕ → ℕ) (ec giver receiver : ℕ) → IsSound k → IsWithinPolicy shared k label → IsActor k.contexts ec → label (pd_of k ec) ≢ 0 → GivesTo k ec giver receiver →
    (label giver ≡ label (pd_of k ec)) × OrTrusted label (label (pd_of k ec)) receiver
side_gives {shared} k label ec giver receiver sound policy actor side (TakesOfCaller caller mark state serves g r) =
    (ap label (sym g) ∙ policy.takes ec caller mark state serves side, inl (ap label (sym r)))
side_gives {shared} k label ec giver receiver sound policy actor side (RepliesWith caller mark state serves g r) =
    (ap label (sym g), subst (OrTrusted label (label (pd_of k ec))) r (served_label k label ec caller mark sound policy actor side serves))
side_gives {shared} k label ec giver receiver sound policy actor side (GivesFirst state g) = (ap label (sym g), inl (policy.firsts ec receiver state side))

-- CAPABILITIES

-- where it may be in the new state, and who acts may not be trusted, or it is there still
abbrev IsStill : KernelState → (ℕ → ℕ) → ℕ → Derivation → Type 0
IsStill k label cpu d = Contains (after k cpu).delegations.list d ⊎ ((ec : ℕ) → Acts k cpu ec → label (pd_of k ec) ≢ 0)

-- a derivation's domain and object were there
holder_below : (k : KernelState) (cpu : ℕ) (d : Derivation) → IsTaken k cpu → Contains k.delegations.list d → d.pd < length k.objects
holder_below k cpu d t there = slice_get_within k.objects d.pd Pd (t.homed.holders d there)

target_below : (k : KernelState) (cpu : ℕ) (d : Derivation) → IsTaken k cpu → Contains k.delegations.list d → d.kind ≡ Obj → d.target < length k.objects
target_below k cpu d t there kind = let o = t.homed.targets d there kind in slice_get_within k.objects d.target o.0 o.1

child_same : (k : KernelState) (cpu : ℕ) (d source : Derivation) → IsTaken k cpu → Contains k.delegations.list source → source.kind ≡ Obj → IsWithin d source → d.target ≡ source.target
child_same k cpu d source t there kind within = child_target d source kind (order_none k source t.sound.forest there kind) within

-- what a side held, it may hold still
old_may : {shared : ℕ → Bool} (k : KernelState) (label : ℕ → ℕ) (cpu : ℕ) (d : Derivation) → IsTaken k cpu → IsWithinPolicy shared k label → MayTakeTurn shared k label cpu → IsStill k label cpu d → Contains k.delegations.list d →
    d.kind ≡ Obj → label d.pd ≢ 0 → MayHold shared (after k cpu) (labels_after k label cpu) (label d.pd) d.target
old_may {shared} k label cpu d t policy take still there kind side = record { leads = leads; alone = alone; waits = waits }
  where
    may : MayHold shared k label (label d.pd) d.target
    may = policy.capabilities d there kind side

    leads : IsOwned (after k cpu) (OrTrusted (labels_after k label cpu) (label d.pd)) d.target (slice_get (after k cpu).objects d.target)
    leads =
        let o = t.homed.targets d there kind in
        subst (IsOwned (after k cpu) (OrTrusted (labels_after k label cpu) (label d.pd)) d.target) (sym (object_kept k cpu d.target o.0 o.1))
        (owned_kept k label cpu (label d.pd) d.target o.0 t.fits.tables o.1 (subst (IsOwned k (OrTrusted label (label d.pd)) d.target) o.1 may.leads))

    was_sm : slice_get (after k cpu).objects d.target ≡ Some Sm → slice_get k.objects d.target ≡ Some Sm
    was_sm now = let o = t.homed.targets d there kind in o.1 ∙ sym (object_kept k cpu d.target o.0 o.1) ∙ now

    -- one that was there
    old : slice_get k.objects d.target ≡ Some Sm → shared d.target ≡ false → (e : Derivation) → Contains k.delegations.list e → e.kind ≡ Obj → e.target ≡ d.target → OrTrusted (labels_after k label cpu) (label d.pd) e.pd
    old sm lone e has its same = or_kept k label cpu (label d.pd) e.pd (holder_below k cpu e t has) (may.alone sm lone e has its same)

    -- one that a trusted one gave now
    given : slice_get (after k cpu).objects d.target ≡ Some Sm → shared d.target ≡ false → (e : Derivation) (ec : ℕ) → Acts k cpu ec → label (pd_of k ec) ≡ 0 → e.pd < length k.objects → Contains (after k cpu).delegations.list e →
        e.kind ≡ Obj → e.target ≡ d.target → OrTrusted (labels_after k label cpu) (label d.pd) e.pd
    given sm lone e ec acts_ trusted below has its same = by_label (place (label e.pd) 0)
      where
        by_alone : OrTrusted (labels_after k label cpu) (label e.pd) d.pd → OrTrusted (labels_after k label cpu) (label d.pd) e.pd
        by_alone (inl is) = inl (labels_old k label cpu e.pd below ∙ sym is ∙ labels_old k label cpu d.pd (holder_below k cpu d t there))
        by_alone (inr none) = absurd (side (sym (labels_old k label cpu d.pd (holder_below k cpu d t there)) ∙ none))

        by_still : IsStill k label cpu d → MayHold shared (after k cpu) (labels_after k label cpu) (label e.pd) e.target → OrTrusted (labels_after k label cpu) (label d.pd) e.pd
        by_still (inl now) its_may = by_alone (its_may.alone (ap (slice_get (after k cpu).objects) same ∙ sm) (ap shared same ∙ lone) d now kind (sym same))
        by_still (inr nobody) its_may = absurd (nobody ec acts_ trusted)

        by_label : (label e.pd ≡ 0) ⊎ (label e.pd ≢ 0) → OrTrusted (labels_after k label cpu) (label d.pd) e.pd
        by_label (inl none) = inr (labels_old k label cpu e.pd below ∙ none)
        by_label (inr other) = elim ((take ec acts_ trusted).gives e has its other) [
          | inl was ↦ old (was_sm sm) lone e was its same
          | inr its_may ↦ by_still still its_may
        ]

    -- one that a side gave now
    passed : slice_get k.objects d.target ≡ Some Sm → shared d.target ≡ false → (e source : Derivation) (ec : ℕ) → Acts k cpu ec → label (pd_of k ec) ≢ 0 → e.pd < length k.objects → Contains k.delegations.list source →
        source.kind ≡ Obj → source.target ≡ d.target → GivesTo k ec source.pd e.pd → OrTrusted (labels_after k label cpu) (label d.pd) e.pd
    passed sm lone e source ec acts_ other below has its same gives = by_alone (may.alone sm lone source has its same)
      where
        labelled : (label source.pd ≡ label (pd_of k ec)) × OrTrusted label (label (pd_of k ec)) e.pd
        labelled = side_gives k label ec source.pd e.pd t.sound policy (acting_one k cpu ec acts_) other gives

        by_receiver : label source.pd ≡ label d.pd → OrTrusted label (label (pd_of k ec)) e.pd → OrTrusted (labels_after k label cpu) (label d.pd) e.pd
        by_receiver its (inl own) = inl (labels_old k label cpu e.pd below ∙ own ∙ sym labelled.0 ∙ its)
        by_receiver its (inr none) = inr (labels_old k label cpu e.pd below ∙ none)

        by_alone : OrTrusted label (label d.pd) source.pd → OrTrusted (labels_after k label cpu) (label d.pd) e.pd
        by_alone (inl is) = by_receiver is labelled.1
        by_alone (inr none) = absurd (other (sym labelled.0 ∙ none))

    alone : slice_get (after k cpu).objects d.target ≡ Some Sm → shared d.target ≡ false → (e : Derivation) → Contains (after k cpu).delegations.list e → e.kind ≡ Obj → e.target ≡ d.target →
        OrTrusted (labels_after k label cpu) (label d.pd) e.pd
    alone sm lone e has its same = by_whence (whence k cpu e t.sound.forest has)
      where
        by_whence : Whence k cpu e → OrTrusted (labels_after k label cpu) (label d.pd) e.pd
        by_whence (Old was) = old (was_sm sm) lone e was its same
        by_whence (Newest ec acts_ o first objects) =
            absurd (let below = target_below k cpu d t there kind in let number = first.target in omega (arith, below, number, same))
        by_whence (Child ec acts_ source was within gives) =
            let below : e.pd < length k.objects = slice_get_within k.objects e.pd Pd (receiver_there k ec source.pd e.pd t.sound t.homed (acting_one k cpu ec acts_) gives) in
            let source_kind : source.kind ≡ Obj = sym within.kind ∙ its in
            elim (place (label (pd_of k ec)) 0) [
              | inl trusted ↦ given sm lone e ec acts_ trusted below has its same
              | inr other ↦ passed (was_sm sm) lone e source ec acts_ other below was source_kind (sym (child_same k cpu e source t was source_kind within) ∙ same) gives
            ]

    waits : shared d.target ≡ false → (n : ℕ) → (context (after k cpu) n).state ≡ Blocked d.target → OrTrusted (labels_after k label cpu) (label d.pd) (pd_of (after k cpu) n)
    waits lone n blocked = by_came (t.came n d.target blocked)
      where
        kept : IsEc k n → OrTrusted label (label d.pd) (pd_of k n) → OrTrusted (labels_after k label cpu) (label d.pd) (pd_of (after k cpu) n)
        kept m (inl is) = inl (label_kept k label cpu n t.fits.tables m ∙ is)
        kept m (inr is) = inr (label_kept k label cpu n t.fits.tables m ∙ is)

        ec : (y : EcState) → context_at k n ≡ Some y → IsEc k n
        ec y at = context_ec k n t.fits.tables (ap (λ (o : Option EcState). is_some o) at)

        by_came : BlockedBy k cpu n d.target → OrTrusted (labels_after k label cpu) (label d.pd) (pd_of (after k cpu) n)
        by_came (Before y at is) = kept (ec y at) (may.waits lone n (ap (λ (o : Option EcState). (context_in o).state) at ∙ is))
        by_came (Now acts_ y at asks) =
            let held = asks.names.at.held in
            kept (ec y at) (subst (OrTrusted label (label d.pd)) held.holder (may.alone (was_sm (t.queue n d.target blocked)) lone asks.names.at.capability held.there held.kind asks.names.at.leads))

-- the first capability to a new object
newest_may : {shared : ℕ → Bool} (k : KernelState) (label : ℕ → ℕ) (cpu ec : ℕ) (d : Derivation) (o : Object) → IsTaken k cpu → IsWithinPolicy shared k label → label (pd_of k ec) ≢ 0 → Acts k cpu ec →
    IsFirstCapability k ec o d → slice_get (after k cpu).objects (length k.objects) ≡ Some o → MayHold shared (after k cpu) (labels_after k label cpu) (label (pd_of k ec)) (length k.objects)
newest_may {shared} k label cpu ec d o t policy side acts_ first is = record {
  leads = subst (IsOwned (after k cpu) (OrTrusted (labels_after k label cpu) (label (pd_of k ec))) (length k.objects)) (sym is) (leads o first);
  alone = λ sm lone e has its same. alone e its same (whence k cpu e t.sound.forest has);
  waits = λ lone n blocked. absurd (by_came n (t.came n (length k.objects) blocked));
}
  where
    leads : (o : Object) → IsFirstCapability k ec o d → IsOwned (after k cpu) (OrTrusted (labels_after k label cpu) (label (pd_of k ec))) (length k.objects) (Some o)
    leads Pd f = inl (labels_made k label cpu ec acts_)
    leads (Ec pd its kind event) f =
        let c = f.creator in
        let own : OrTrusted label (label (pd_of k ec)) c.capability.target =
        held_owned k label ec c.capability c.capability.target Pd policy side c.there c.kind (c.held ∙ f.pd) refl c.leads in
        subst (OrTrusted (labels_after k label cpu) (label (pd_of k ec))) (sym f.place)
        (or_kept k label cpu (label (pd_of k ec)) c.capability.target (slice_get_within k.objects c.capability.target Pd c.leads) own)
    leads (Sc donor its priority quantum) f =
        let b = f.bound.bound in
        or_member k label cpu (label (pd_of k ec)) donor t.fits.tables
        (schedulable_member k (OrTrusted label (label (pd_of k ec))) donor (slice_get k.objects donor) refl b.leads
        (subst (λ (n : ℕ). IsOwned k (OrTrusted label (label (pd_of k ec))) n (slice_get k.objects n)) b.target (held_may k label ec b.capability policy side b.there b.kind (b.held ∙ f.pd)).leads))
    leads (Pt handler mtd ip) f =
        let b = f.bound in
        or_member k label cpu (label (pd_of k ec)) handler t.fits.tables
        (local_member k (OrTrusted label (label (pd_of k ec))) handler (slice_get k.objects handler) refl b.leads
        (subst (λ (n : ℕ). IsOwned k (OrTrusted label (label (pd_of k ec))) n (slice_get k.objects n)) b.target (held_may k label ec b.capability policy side b.there b.kind (b.held ∙ f.pd)).leads))
    leads Sm f = tt

    -- the maker's domain is there
    home : d.pd < length k.objects
    home = let c = first.creator in subst (λ (n : ℕ). n < length k.objects) c.held (holder_below k cpu c.capability t c.there)

    alone : (e : Derivation) → e.kind ≡ Obj → e.target ≡ length k.objects → Whence k cpu e → OrTrusted (labels_after k label cpu) (label (pd_of k ec)) e.pd
    alone e its same (Old was) = absurd (let below = target_below k cpu e t was its in omega (arith, below, same))
    alone e its same (Newest ec_ its_acts o_ first_ objects) =
        let one : e.pd ≡ d.pd = first_.pd ∙ ap (pd_of k) (acts_one k cpu ec_ ec its_acts acts_) ∙ sym first.pd in
        inl (ap (labels_after k label cpu) one ∙ labels_old k label cpu d.pd home ∙ ap label first.pd)
    alone e its same (Child ec_ its_acts source was within gives) =
        let source_kind : source.kind ≡ Obj = sym within.kind ∙ its in
        absurd (let below = target_below k cpu source t was source_kind in let from = child_same k cpu e source t was source_kind within in omega (arith, below, from, same))

    by_came : (n : ℕ) → BlockedBy k cpu n (length k.objects) → ⊥
    by_came n (Before y at blocked) =
        let sm = blocked_object k n (length k.objects) t.fits (ap (λ (o : Option EcState). (context_in o).state) at ∙ blocked) in
        let below = slice_get_within k.objects (length k.objects) Sm sm in omega (arith, below)
    by_came n (Now its_acts y at asks) =
        let held = asks.names.at.held in
        let below = target_below k cpu asks.names.at.capability t held.there held.kind in
        let leads = asks.names.at.leads in omega (arith, below, leads)

capabilities_after : {shared : ℕ → Bool} (k : KernelState) (label : ℕ → ℕ) (cpu : ℕ) → IsTaken k cpu → IsWithinPolicy shared k label → MayTakeTurn shared k label cpu → (d : Derivation) → Contains (after k cpu).delegations.list d → d.kind ≡ Obj →
    labels_after k label cpu d.pd ≢ 0 → MayHold shared (after k cpu) (labels_after k label cpu) (labels_after k label cpu d.pd) d.target
capabilities_after {shared} k label cpu t policy take d now kind side = by_whence (whence k cpu d t.sound.forest now)
  where
    Its : ℕ → Type 0
    Its s = MayHold shared (after k cpu) (labels_after k label cpu) s d.target

    was_side : d.pd < length k.objects → label d.pd ≢ 0
    was_side below none = side (labels_old k label cpu d.pd below ∙ none)

    by_old : Contains k.delegations.list d → Its (labels_after k label cpu d.pd)
    by_old was =
        let below = holder_below k cpu d t was in
        subst Its (sym (labels_old k label cpu d.pd below)) (old_may k label cpu d t policy take (inl now) was kind (was_side below))

    by_whence : Whence k cpu d → Its (labels_after k label cpu d.pd)
    by_whence (Old was) = by_old was
    by_whence (Newest ec acts_ o first objects) =
        let c = first.creator in
        let below : d.pd < length k.objects = subst (λ (n : ℕ). n < length k.objects) c.held (holder_below k cpu c.capability t c.there) in
        let its : labels_after k label cpu d.pd ≡ label (pd_of k ec) = labels_old k label cpu d.pd below ∙ ap label first.pd in
        subst Its (sym its) (subst (λ (n : ℕ). MayHold shared (after k cpu) (labels_after k label cpu) (label (pd_of k ec)) n) (sym first.target)
        (newest_may k label cpu ec d o t policy (λ none. side (its ∙ none)) acts_ first (newest_object k cpu o objects)))
    by_whence (Child ec acts_ source was within gives) =
        let below : d.pd < length k.objects = slice_get_within k.objects d.pd Pd (receiver_there k ec source.pd d.pd t.sound t.homed (acting_one k cpu ec acts_) gives) in
        by_label below (place (label (pd_of k ec)) 0)
      where
        source_kind : source.kind ≡ Obj
        source_kind = sym within.kind ∙ kind

        own_label : OrTrusted label (label (pd_of k ec)) d.pd → label d.pd ≢ 0 → label d.pd ≡ label (pd_of k ec)
        own_label (inl same) some = same
        own_label (inr none) some = absurd (some none)

        by_label : d.pd < length k.objects → (label (pd_of k ec) ≡ 0) ⊎ (label (pd_of k ec) ≢ 0) → Its (labels_after k label cpu d.pd)
        by_label below (inl trusted) = elim ((take ec acts_ trusted).gives d now kind (was_side below)) [
          | inl there ↦ by_old there
          | inr may ↦ subst Its (sym (labels_old k label cpu d.pd below)) may
        ]
        by_label below (inr other) =
            let labelled = side_gives k label ec source.pd d.pd t.sound policy (acting_one k cpu ec acts_) other gives in
            let its : label source.pd ≡ labels_after k label cpu d.pd = labelled.0 ∙ sym (own_label labelled.1 (was_side below)) ∙ sym (labels_old k label cpu d.pd below) in
            subst Its its (subst (λ (n : ℕ). MayHold shared (after k cpu) (labels_after k label cpu) (label source.pd) n) (sym (child_same k cpu d source t was source_kind within))
            (old_may k label cpu source t policy take (inr (λ e its_acts. subst (λ (n : ℕ). label (pd_of k n) ≢ 0) (acts_one k cpu ec e acts_ its_acts) other)) was source_kind
            (λ none. other (sym labelled.0 ∙ none))))

-- WHO WAITS, AND FIRST RANGES

handler_ec : (k : KernelState) (cpu ec handler : ℕ) → IsTaken k cpu → CallsAt k ec handler ⊎ ExitsAt k ec handler → IsEc k handler
handler_ec k cpu ec handler t (inl c) = local_ec k handler (handler_local k c.portal handler c.mtd c.ip t.fits.tables c.object)
handler_ec k cpu ec handler t (inr c) = local_ec k handler (handler_local k c.portal handler c.mtd c.ip t.fits.tables c.object)

-- a thread that is no handler is none after the turn
local_same : (k : KernelState) (cpu n : ℕ) → IsEc k n → is_local_thread k n ≡ false → is_local_thread (after k cpu) n ≡ false
local_same k cpu n m none =
    ap is_local_in (object_kept k cpu n (Ec m.domain m.cpu m.kind m.event) m.object) ∙ sym (ap is_local_in m.object) ∙ none

edges_after : {shared : ℕ → Bool} (k : KernelState) (label : ℕ → ℕ) (cpu : ℕ) → IsTaken k cpu → IsWithinPolicy shared k label → MayTakeTurn shared k label cpu → (waiter handler : ℕ) → edge (after k cpu).contexts waiter ≡ Some handler →
    labels_after k label cpu (pd_of (after k cpu) handler) ≢ 0 → MayWait (after k cpu) (labels_after k label cpu) (labels_after k label cpu (pd_of (after k cpu) handler)) waiter
edges_after {shared} k label cpu t policy take waiter handler is side = elim (edge_came k cpu waiter handler t.rightful is) [
  | inl before ↦ kept (edge_ec k waiter handler t.fits.tables before) (local_ec k handler (t.local waiter handler before)) (λ its. policy.edges waiter handler before its)
  | inr now ↦ by_now now.0 now.1
]
  where
    Goal : Type 0
    Goal = MayWait (after k cpu) (labels_after k label cpu) (labels_after k label cpu (pd_of (after k cpu) handler)) waiter

    kept : IsEc k waiter → (h : IsEc k handler) → (label (pd_of k handler) ≢ 0 → MayWait k label (label (pd_of k handler)) waiter) → Goal
    kept w h may = by_may (may (λ none. side (its ∙ none)))
      where
        its : labels_after k label cpu (pd_of (after k cpu) handler) ≡ label (pd_of k handler)
        its = label_kept k label cpu handler t.fits.tables h

        by_may : MayWait k label (label (pd_of k handler)) waiter → Goal
        by_may (inl same) = inl (label_kept k label cpu waiter t.fits.tables w ∙ same ∙ sym its)
        by_may (inr client) = inr (label_kept k label cpu waiter t.fits.tables w ∙ client.0, local_same k cpu waiter w client.1)

    by_called : OrTrusted label (label (pd_of k waiter)) (pd_of k handler) → label (pd_of k handler) ≢ 0 → MayWait k label (label (pd_of k handler)) waiter
    by_called (inl same) its = inl (sym same)
    by_called (inr none) its = absurd (its none)

    by_now : Acts k cpu waiter → CallsAt k waiter handler ⊎ ExitsAt k waiter handler → Goal
    by_now acts_ by =
        let w = context_ec k waiter t.fits.tables (ap (λ (o : Option EcState). is_some o) (acting_one k cpu waiter acts_).there) in
        kept w (handler_ec k cpu waiter handler t by) (λ its. by_label its (place (label (pd_of k waiter)) 0))
      where
        by_careful : label (pd_of k waiter) ≡ 0 → label (pd_of k handler) ≢ 0 → (label (pd_of k handler) ≡ 0) ⊎ (is_local_thread k waiter ≡ false) → MayWait k label (label (pd_of k handler)) waiter
        by_careful trusted its (inl none) = absurd (its none)
        by_careful trusted its (inr client) = inr (trusted, client)

        by_label : label (pd_of k handler) ≢ 0 → (label (pd_of k waiter) ≡ 0) ⊎ (label (pd_of k waiter) ≢ 0) → MayWait k label (label (pd_of k handler)) waiter
        by_label its (inl trusted) = by_careful trusted its ((take waiter acts_ trusted).calls handler is)
        by_label its (inr other) =
            by_called (member_pd k (OrTrusted label (label (pd_of k waiter))) handler (called_by k label waiter handler policy other by)) its

-- whom a handler that takes items serves waits for it
pub served_waits : (k : KernelState) (handler caller : ℕ) (mark : Mark) → IsSound k → (context k handler).state ≡ Granting None → (context k handler).caller ≡ Some (caller, mark) →
    (context k caller).state ≡ Calling handler
served_waits k handler caller mark sound taking serves = by_handler (context_at k handler) refl taking serves
  where
    by_caller : (o : Option EcState) → option_map (λ (x : EcState). x.state) o ≡ Some (Calling handler) → (context_in o).state ≡ Calling handler
    by_caller None is = absurd (cc)
    by_caller (Some x) is = same_Some x.state (Calling handler) is

    by_handler : (o : Option EcState) → context_at k handler ≡ o → (context_in o).state ≡ Granting None → (context_in o).caller ≡ Some (caller, mark) → (context k caller).state ≡ Calling handler
    by_handler None at is keeps = absurd (cc)
    by_handler (Some y) at is keeps =
        by_caller (context_at k caller)
        ((sound.kept.served.linked caller handler).waits mark (ap caller_at at ∙ keeps) (ap (λ (q : Option EcState). is_dead (state_at q)) at ∙ ap (λ (t : State). is_dead (Some t)) is))

takes_after : {shared : ℕ → Bool} (k : KernelState) (label : ℕ → ℕ) (cpu : ℕ) → IsTaken k cpu → IsWithinPolicy shared k label → MayTakeTurn shared k label cpu → (handler caller : ℕ) (mark : Mark) →
    (context (after k cpu) handler).state ≡ Granting None → (context (after k cpu) handler).caller ≡ Some (caller, mark) → labels_after k label cpu (pd_of (after k cpu) handler) ≢ 0 →
    labels_after k label cpu (pd_of (after k cpu) caller) ≡ labels_after k label cpu (pd_of (after k cpu) handler)
takes_after {shared} k label cpu t policy take handler caller mark state keeps side = by_came (t.taking handler caller mark state keeps)
  where
    Goal : Type 0
    Goal = labels_after k label cpu (pd_of (after k cpu) caller) ≡ labels_after k label cpu (pd_of (after k cpu) handler)

    kept : IsEc k caller → IsEc k handler → (label (pd_of k handler) ≢ 0 → label (pd_of k caller) ≡ label (pd_of k handler)) → Goal
    kept c h same =
        let its = label_kept k label cpu handler t.fits.tables h in
        label_kept k label cpu caller t.fits.tables c ∙ same (λ none. side (its ∙ none)) ∙ sym its

    there : (n : ℕ) (s : State) → s ≢ Dead → (context k n).state ≡ s → IsEc k n
    there n s alive is = by_entry (context_at k n) refl is
      where
        by_entry : (o : Option EcState) → context_at k n ≡ o → (context_in o).state ≡ s → IsEc k n
        by_entry None at dead = absurd (alive (sym dead))
        by_entry (Some x) at dead = context_ec k n t.fits.tables (ap (λ (o : Option EcState). is_some o) at)

    by_called : OrTrusted label (label (pd_of k caller)) (pd_of k handler) → label (pd_of k handler) ≢ 0 → label (pd_of k caller) ≡ label (pd_of k handler)
    by_called (inl same) its = sym same
    by_called (inr none) its = absurd (its none)

    by_label : Acts k cpu caller → CallsAt k caller handler → label (pd_of k handler) ≢ 0 → (label (pd_of k caller) ≡ 0) ⊎ (label (pd_of k caller) ≢ 0) → label (pd_of k caller) ≡ label (pd_of k handler)
    by_label acts_ by its (inl trusted) = absurd (its ((take caller acts_ trusted).sends handler mark state keeps))
    by_label acts_ by its (inr other) =
        by_called (member_pd k (OrTrusted label (label (pd_of k caller))) handler (called_by k label caller handler policy other (inl by))) its

    by_came : TakesBy k cpu handler caller mark → Goal
    by_came (Took was serves) =
        let h = there handler (Granting None) (λ same. cc) was in
        let waits = (served_waits k handler caller mark t.sound was serves) in
        kept (there caller (Calling handler) (λ same. cc) waits) h (λ its. policy.takes handler caller mark was serves its)
    by_came (Begins acts_ by) =
        kept (context_ec k caller t.fits.tables (ap (λ (o : Option EcState). is_some o) (acting_one k cpu caller acts_).there)) (handler_ec k cpu caller handler t (inl by))
        (λ its. by_label acts_ by its (place (label (pd_of k caller)) 0))

firsts_after : {shared : ℕ → Bool} (k : KernelState) (label : ℕ → ℕ) (cpu : ℕ) → IsTaken k cpu → IsWithinPolicy shared k label → (ec new : ℕ) → (context (after k cpu) ec).state ≡ Granting (Some new) →
    labels_after k label cpu (pd_of (after k cpu) ec) ≢ 0 → labels_after k label cpu new ≡ labels_after k label cpu (pd_of (after k cpu) ec)
firsts_after {shared} k label cpu t policy ec new is side = elim (came k cpu ec (Granting (Some new)) tt is) [
  | inl before ↦
      let its = label_kept k label cpu ec t.fits.tables (context_ec k ec t.fits.tables (there (context_at k ec) before)) in
      labels_old k label cpu new (slice_get_within k.objects new Pd (t.homed.opened ec new before)) ∙ policy.firsts ec new before (λ none. side (its ∙ none)) ∙ sym its
  | inr now ↦
      let its = label_kept k label cpu ec t.fits.tables (context_ec k ec t.fits.tables (ap (λ (o : Option EcState). is_some o) (acting_one k cpu ec now.0).there)) in
      ap (labels_after k label cpu) (sym (opened_now k cpu ec new now.0 now.1).0) ∙ labels_made k label cpu ec now.0 ∙ sym its
]
  where
    there : (o : Option EcState) → (context_in o).state ≡ Granting (Some new) → is_some o ≡ true
    there None at = absurd (cc)
    there (Some x) at = refl

queues_after : {shared : ℕ → Bool} (k : KernelState) (label : ℕ → ℕ) (cpu n m sm : ℕ) → IsTaken k cpu → IsWithinPolicy shared k label → shared sm ≡ false → (context (after k cpu) n).state ≡ Blocked sm → (context (after k cpu) m).state ≡ Blocked sm →
    labels_after k label cpu (pd_of (after k cpu) n) ≢ 0 → OrTrusted (labels_after k label cpu) (labels_after k label cpu (pd_of (after k cpu) n)) (pd_of (after k cpu) m)
queues_after {shared} k label cpu n m sm t policy lone first second side = by_both (t.came n sm first) (t.came m sm second)
  where
    ec : (e : ℕ) (y : EcState) → context_at k e ≡ Some y → IsEc k e
    ec e y at = context_ec k e t.fits.tables (ap (λ (o : Option EcState). is_some o) at)

    was : (e : ℕ) (y : EcState) → context_at k e ≡ Some y → y.state ≡ Blocked sm → (context k e).state ≡ Blocked sm
    was e y at is = ap (λ (o : Option EcState). (context_in o).state) at ∙ is

    some : IsEc k n → label (pd_of k n) ≢ 0
    some i none = side (label_kept k label cpu n t.fits.tables i ∙ none)

    kept : IsEc k n → IsEc k m → OrTrusted label (label (pd_of k n)) (pd_of k m) → OrTrusted (labels_after k label cpu) (labels_after k label cpu (pd_of (after k cpu) n)) (pd_of (after k cpu) m)
    kept i j (inl same) = inl (label_kept k label cpu m t.fits.tables j ∙ same ∙ sym (label_kept k label cpu n t.fits.tables i))
    kept i j (inr none) = inr (label_kept k label cpu m t.fits.tables j ∙ none)

    -- who asks for a down holds the semaphore, where nobody of another side waits
    asked : (e other : ℕ) → label (pd_of k e) ≢ 0 → AsksDown k e sm → (context k other).state ≡ Blocked sm → OrTrusted label (label (pd_of k e)) (pd_of k other)
    asked e other own asks waits =
        let at = asks.names.at in
        (held_may k label e at.capability policy own at.held.there at.held.kind at.held.holder).waits (ap shared at.leads ∙ lone) other (waits ∙ ap (λ (s : ℕ). Blocked s) (sym at.leads))

    turned_round : label (pd_of k n) ≢ 0 → (label (pd_of k m) ≡ 0) ⊎ (label (pd_of k m) ≢ 0) → AsksDown k m sm → (context k n).state ≡ Blocked sm → OrTrusted label (label (pd_of k n)) (pd_of k m)
    turned_round own (inl none) asks waits = inr none
    turned_round own (inr other) asks waits = by_asked (asked m n other asks waits)
      where
        by_asked : OrTrusted label (label (pd_of k m)) (pd_of k n) → OrTrusted label (label (pd_of k n)) (pd_of k m)
        by_asked (inl same) = inl (sym same)
        by_asked (inr none) = absurd (own none)

    by_both : BlockedBy k cpu n sm → BlockedBy k cpu m sm → OrTrusted (labels_after k label cpu) (labels_after k label cpu (pd_of (after k cpu) n)) (pd_of (after k cpu) m)
    by_both (Before y at is) (Before z there also) = kept (ec n y at) (ec m z there) (policy.queues n m sm lone (was n y at is) (was m z there also) (some (ec n y at)))
    by_both (Before y at is) (Now acts_ z there asks) =
        kept (ec n y at) (ec m z there) (turned_round (some (ec n y at)) (place (label (pd_of k m)) 0) asks (was n y at is))
    by_both (Now acts_ y at asks) (Before z there also) = kept (ec n y at) (ec m z there) (asked n m (some (ec n y at)) asks (was m z there also))
    by_both (Now acts_ y at asks) (Now also_ z there too) = inl (ap (λ (e : ℕ). labels_after k label cpu (pd_of (after k cpu) e)) (acts_one k cpu m n also_ acts_))

pub policy_after : {shared : ℕ → Bool} (k : KernelState) (label : ℕ → ℕ) (cpu : ℕ) → IsTaken k cpu → IsWithinPolicy shared k label → MayTakeTurn shared k label cpu → IsWithinPolicy shared (after k cpu) (labels_after k label cpu)
policy_after {shared} k label cpu t policy take = record {
  capabilities = capabilities_after k label cpu t policy take;
  edges = edges_after k label cpu t policy take;
  takes = takes_after k label cpu t policy take;
  firsts = firsts_after k label cpu t policy;
  queues = λ n m sm lone first second side. queues_after k label cpu n m sm t policy lone first second side;
}

-- A SIDE TOUCHES NOTHING OF ANOTHER SIDE

-- whoever leads along edges to one of a side is of the side, or a client that is trusted
led_label : {shared : ℕ → Bool} (k : KernelState) (label : ℕ → ℕ) (ec n edges : ℕ) → HasLocalEdges k → IsWithinPolicy shared k label → label (pd_of k ec) ≢ 0 → after_edges edges (edge k.contexts) n ≡ Some ec →
    MayWait k label (label (pd_of k ec)) n
led_label {shared} k label ec n zero local policy side is = inl (ap (λ (m : ℕ). label (pd_of k m)) (same_Some n ec is))
led_label {shared} k label ec n (suc edges) local policy side is = by_edge (edge k.contexts n) refl is (λ h leads. led_label k label ec h edges local policy side leads)
  where
    -- a handler is no client
    handles : (h : ℕ) → IsOf k.objects is_local h → is_local_thread k h ≡ false → ⊥
    handles h of none = by_object (slice_get k.objects h) of none
      where
        by_object : (o : Option Object) → option_map is_local o ≡ Some true → is_local_in o ≡ false → ⊥
        by_object None a b = absurd (cc)
        by_object (Some (Ec pd cpu Local event)) a b = absurd (cc)
        by_object (Some (Ec pd cpu Global event)) a b = absurd (cc)
        by_object (Some (Ec pd cpu Vcpu event)) a b = absurd (cc)
        by_object (Some Pd) a b = absurd (cc)
        by_object (Some (Sc e cpu priority quantum)) a b = absurd (cc)
        by_object (Some (Pt e mtd ip)) a b = absurd (cc)
        by_object (Some Sm) a b = absurd (cc)

    by_handler : (h : ℕ) → edge k.contexts n ≡ Some h → MayWait k label (label (pd_of k ec)) h → MayWait k label (label (pd_of k ec)) n
    by_handler h at (inl its) = subst (λ (s : ℕ). MayWait k label s n) its (policy.edges n h at (λ none. side (sym its ∙ none)))
    by_handler h at (inr client) = absurd (handles h (local n h at) client.1)

    by_edge : (o : Option ℕ) → edge k.contexts n ≡ o → option_and_then (after_edges edges (edge k.contexts)) o ≡ Some ec →
        ((h : ℕ) → after_edges edges (edge k.contexts) h ≡ Some ec → MayWait k label (label (pd_of k ec)) h) → MayWait k label (label (pd_of k ec)) n
    by_edge None at leads later = absurd (cc)
    by_edge (Some h) at leads later = by_handler h at (later h leads)

pub policy_clear : {shared : ℕ → Bool} (k : KernelState) (label : ℕ → ℕ) (ec side : ℕ) → IsSound k → HasLocalEdges k → IsWithinPolicy shared k label → IsActor k.contexts ec → label (pd_of k ec) ≢ 0 → side ≢ 0 → side ≢ label (pd_of k ec) →
    IsClear k (Labelled label side) ec
policy_clear {shared} k label ec side sound local policy actor own some other = record {
  away = record {
    out = λ same. other (sym same);
    calls = λ handler by theirs. apart (pd_of k handler) (member_pd k (OrTrusted label (label (pd_of k ec))) handler (called_by k label ec handler policy own by)) (member_pd k (Labelled label side) handler theirs);
    gives = λ giver receiver g theirs. apart receiver (side_gives k label ec giver receiver sound policy actor own g).1 theirs;
  };
  serves = λ caller mark serves theirs. apart (pd_of k caller) (served_label k label ec caller mark sound policy actor own serves) (member_pd k (Labelled label side) caller theirs);
  controls = λ n call right names theirs. apart theirs.domain (named n call right names (Ec theirs.domain theirs.cpu theirs.kind theirs.event) theirs.object) theirs.of;
  portals = λ n call right handler mtd ip names is theirs.
      apart (pd_of k handler) (member_pd k (OrTrusted label (label (pd_of k ec))) handler (named n call right names (Pt handler mtd ip) is)) (member_pd k (Labelled label side) handler theirs);
  leads = λ donor edges way theirs. led donor (led_label k label ec donor edges local policy own way) (member_pd k (Labelled label side) donor theirs);
}
  where
    apart : (n : ℕ) → OrTrusted label (label (pd_of k ec)) n → label n ≡ side → ⊥
    apart n (inl same) is = other (sym is ∙ same)
    apart n (inr none) is = some (sym is ∙ none)

    led : (n : ℕ) → MayWait k label (label (pd_of k ec)) n → label (pd_of k n) ≡ side → ⊥
    led n (inl same) is = other (sym is ∙ same)
    led n (inr client) is = some (sym is ∙ client.0)

    named : (n call right : ℕ) → Names k ec call right n → (o : Object) → slice_get k.objects n ≡ Some o → IsOwned k (OrTrusted label (label (pd_of k ec))) n (Some o)
    named n call right names o is =
        held_owned k label ec names.at.capability n o policy own names.at.held.there names.at.held.kind names.at.held.holder names.at.leads is
