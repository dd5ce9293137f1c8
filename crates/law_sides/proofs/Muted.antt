-- A mute domain stays mute over turns of sides, bare and mute domains: what it holds is its own or controlled at most, no capability of a side leads
-- there, and it waits with no other.
use Rattle.std.proofs.Common.{◌≡◌, ◌≢◌, ◌⊎◌, ℕ, List, length, refl, sym, ap, ◌∙◌, subst, inl, inr}
use Rattle.std.specs.Prelude.{true, not, Contains, is_some, slice_get, Option, Some}
use Rattle.std.proofs.lemmas.Bool.{and_parts}
use Rattle.std.proofs.lemmas.Option.{same_Some, slice_get_within}
use Rattle.nova_objects.specs.declared.object.Object.{Object}
use Rattle.nova_objects.specs.declared.object.Object.TheVariants.{Pd, Ec, Sc, Pt, Sm}
use Rattle.nova_range.specs.Rights.{allows}
use Rattle.nova_range.specs.declared.range.Kind.TheVariants.{Obj}
use Rattle.nova_model.specs.Boot.{Scenario, boot}
use Rattle.nova_model.specs.Capabilities.{bind_portal_right, bind_scheduling_right, call_right, create_right, event_right, is_local, is_schedulable}
use Rattle.nova_model.specs.Edges.{edge}
use Rattle.nova_model.specs.Forest.{IsWithin}
use Rattle.nova_model.specs.Runs.{after, run}
use Rattle.nova_model.specs.State.{KernelState, context, pd_in, pd_of}
use Rattle.nova_model.specs.declared.context.EcState.{EcState}
use Rattle.nova_model.specs.declared.context.State.TheVariants.{Granting}
use Rattle.nova_model.specs.declared.delegation.Derivation.{Derivation}
use Rattle.law_forest.specs.Made.{IsFirstCapability, MayCreate, MayUse}
use Rattle.law_turns.specs.Tables.{Refers}
use Rattle.law_turns.proofs.Serving.{awaited}
use Rattle.law_origins.specs.Giving.{Acts}
use Rattle.law_origins.proofs.Coming.{came}
use Rattle.law_origins.proofs.Origins.{opened_now}
use Rattle.law_integrity.specs.Confined.{AreSeparate, IsMember, more}
use Rattle.law_integrity.specs.Rights.{CallsAt, ExitsAt, GivesFirst, GivesTo, RepliesWith, TakesOfCaller}
use Rattle.law_integrity.specs.Trusted.{labels_after}
use Rattle.law_integrity.proofs.Confining.{Child, Newest, Old, Whence, acting_one, acts_one, child_target, gives_in, member_pd, newest_object, not_next, object_kept, order_none, was_in, waits_edge, whence}
use Rattle.law_integrity.proofs.Edges.{at_index, edge_came, handler_local}
use Rattle.law_integrity.proofs.Homes.{receiver_there}
use Rattle.law_integrity.proofs.Labels.{IsEc, IsTaken, context_ec, edge_ec, labels_made, labels_old, local_ec}
use Rattle.law_integrity.proofs.Resting.{acts_in}
use Rattle.law_sides.specs.Roles.{controls_alone, domain_of, target_domain}
use Rattle.law_sides.proofs.Controls.{controls_less, not_both, schedulable_ec}
use Rattle.law_sides.proofs.Entries.{as_member, grant_there}
use Rattle.law_sides.proofs.Words.{donor_ec}

-- the domains of M are mute, of those S that may act, beside sides and the bare domains B
pub record AreMute (k : KernelState) (label : ℕ → ℕ) (S M : ℕ → Type 0) : Type 0 where
  pub trusted : (n : ℕ) → M n → label n ≡ 0
  pub there : (n : ℕ) → M n → slice_get k.objects n ≡ Some Pd
  pub within : (n : ℕ) → M n → S n
  pub holds : (d : Derivation) → Contains k.delegations.list d → d.kind ≡ Obj → M d.pd → (n : ℕ) → target_domain k d ≡ Some n → M n ⊎ (controls_alone d.rights (slice_get k.objects d.target) ≡ true)
  pub unreached : (d : Derivation) → Contains k.delegations.list d → d.kind ≡ Obj → label d.pd ≢ 0 → (n : ℕ) → target_domain k d ≡ Some n → M n → ⊥
  pub enters : (waiter handler : ℕ) → edge k.contexts waiter ≡ Some handler → M (pd_of k handler) → M (pd_of k waiter)
  pub leaves : (waiter handler : ℕ) → edge k.contexts waiter ≡ Some handler → M (pd_of k waiter) → M (pd_of k handler)
  pub firsts : (ec new : ℕ) → (context k ec).state ≡ Granting (Some new) → M (pd_of k ec) → M new
  pub given : (ec new : ℕ) → (context k ec).state ≡ Granting (Some new) → M new → M (pd_of k ec)

module _ (s : Scenario) (before : List ℕ) (label : ℕ → ℕ) (S T M B : ℕ → Type 0) (cpu : ℕ) where
  abbrev pub k : KernelState
  k = run (boot s) before

  abbrev pub new : KernelState
  new = after (run (boot s) before) cpu

  module _ (t : IsTaken k cpu) (mute : AreMute k label S M) where
    -- DOMAINS, BEFORE AND AFTER

    was_domain : (ec : ℕ) → IsEc k ec → pd_of new ec ≡ pd_of k ec
    was_domain ec m = ap pd_in (object_kept k cpu ec (Ec m.domain m.cpu m.kind m.event) m.object) ∙ sym (ap pd_in m.object)

    home : (ec : ℕ) → IsEc k ec → slice_get k.objects (pd_of k ec) ≡ Some Pd
    home ec m = subst (λ (d : ℕ). slice_get k.objects d ≡ Some Pd) (sym (ap pd_in m.object)) (at_index (Refers k.objects) k.objects ec (Ec m.domain m.cpu m.kind m.event) t.fits.tables.refer m.object)

    was_mute : (ec : ℕ) → IsEc k ec → more k M cpu (pd_of new ec) → M (pd_of k ec)
    was_mute ec m its = was_in k M cpu (pd_of k ec) (home ec m) (subst (more k M cpu) (was_domain ec m) its)

    is_mute_still : (ec : ℕ) → IsEc k ec → M (pd_of k ec) → more k M cpu (pd_of new ec)
    is_mute_still ec m its = inl (subst M (sym (was_domain ec m)) its)

    actor_ec : (ec : ℕ) → Acts k cpu ec → IsEc k ec
    actor_ec ec acts_ = context_ec k ec t.fits.tables (ap (λ (o : Option EcState). is_some o) (acting_one k cpu ec acts_).there)

    handler_at : (n handler mtd ip : ℕ) → slice_get k.objects n ≡ Some (Pt handler mtd ip) → IsEc k handler
    handler_at n handler mtd ip at = local_ec k handler (handler_local k n handler mtd ip t.fits.tables at)

    donor_at : (n donor its priority quantum : ℕ) → slice_get k.objects n ≡ Some (Sc donor its priority quantum) → IsEc k donor
    donor_at n donor its priority quantum at = donor_ec k donor its (at_index (Refers k.objects) k.objects n (Sc donor its priority quantum) t.fits.tables.refer at)

    -- where a capability leads is a domain, and stays so
    domain_kept : (n : ℕ) (o : Object) → slice_get k.objects n ≡ Some o → domain_of new n (Some o) ≡ domain_of k n (Some o)
    domain_kept n Pd at = refl
    domain_kept n (Ec pd its kind event) at = refl
    domain_kept n (Sc donor its priority quantum) at = ap (λ (d : ℕ). Some d) (was_domain donor (donor_at n donor its priority quantum at))
    domain_kept n (Pt handler mtd ip) at = ap (λ (d : ℕ). Some d) (was_domain handler (handler_at n handler mtd ip at))
    domain_kept n Sm at = refl

    domain_there : (n : ℕ) (o : Object) → slice_get k.objects n ≡ Some o → (d : ℕ) → domain_of k n (Some o) ≡ Some d → slice_get k.objects d ≡ Some Pd
    domain_there n Pd at d is = subst (λ (e : ℕ). slice_get k.objects e ≡ Some Pd) (same_Some n d is) at
    domain_there n (Ec pd its kind event) at d is =
        subst (λ (e : ℕ). slice_get k.objects e ≡ Some Pd) (same_Some pd d is) (at_index (Refers k.objects) k.objects n (Ec pd its kind event) t.fits.tables.refer at)
    domain_there n (Sc donor its priority quantum) at d is = subst (λ (e : ℕ). slice_get k.objects e ≡ Some Pd) (same_Some (pd_of k donor) d is) (home donor (donor_at n donor its priority quantum at))
    domain_there n (Pt handler mtd ip) at d is = subst (λ (e : ℕ). slice_get k.objects e ≡ Some Pd) (same_Some (pd_of k handler) d is) (home handler (handler_at n handler mtd ip at))
    domain_there n Sm at d is = absurd (cc)

    -- of a derivation that leads where one did before
    module _ (d e : Derivation) (there : Contains k.delegations.list e) (kind : e.kind ≡ Obj) (same : d.target ≡ e.target) where
      found : (o : Object) × (slice_get k.objects d.target ≡ Some o)
      found = let o = t.homed.targets e there kind in (o.0, ap (slice_get k.objects) same ∙ o.1)

      led_before : (n : ℕ) → target_domain new d ≡ Some n → target_domain k e ≡ Some n
      led_before n to =
          ap (λ (m : ℕ). domain_of k m (slice_get k.objects m)) (sym same) ∙ ap (domain_of k d.target) found.1 ∙ sym (domain_kept d.target found.0 found.1)
          ∙ sym (ap (domain_of new d.target) (object_kept k cpu d.target found.0 found.1)) ∙ to

      led_there : (n : ℕ) → target_domain new d ≡ Some n → slice_get k.objects n ≡ Some Pd
      led_there n to = domain_there d.target found.0 found.1 n (sym (ap (domain_of k d.target) found.1) ∙ ap (λ (m : ℕ). domain_of k m (slice_get k.objects m)) same ∙ led_before n to)

      object_same : slice_get new.objects d.target ≡ slice_get k.objects e.target
      object_same = object_kept k cpu d.target found.0 found.1 ∙ sym found.1 ∙ ap (slice_get k.objects) same

    -- WHICH CONTEXT GIVES TO WHICH

    gift_in : (ec giver receiver : ℕ) → Acts k cpu ec → GivesTo k ec giver receiver → M receiver → M giver
    gift_in ec giver receiver acts_ (TakesOfCaller caller mark state serves g r) m =
        subst M g (mute.enters caller ec (waits_edge k caller ec (awaited _ k.contexts ec caller mark (acting_one k cpu ec acts_) serves t.sound.kept.served).waits) (subst M (sym r) m))
    gift_in ec giver receiver acts_ (RepliesWith caller mark state serves g r) m =
        subst M g (mute.leaves caller ec (waits_edge k caller ec (awaited _ k.contexts ec caller mark (acting_one k cpu ec acts_) serves t.sound.kept.served).waits) (subst M (sym r) m))
    gift_in ec giver receiver acts_ (GivesFirst state g) m = subst M g (mute.given ec receiver state m)

    pub gift_out : (ec giver receiver : ℕ) → Acts k cpu ec → GivesTo k ec giver receiver → M giver → M receiver
    gift_out ec giver receiver acts_ (TakesOfCaller caller mark state serves g r) m =
        subst M r (mute.leaves caller ec (waits_edge k caller ec (awaited _ k.contexts ec caller mark (acting_one k cpu ec acts_) serves t.sound.kept.served).waits) (subst M (sym g) m))
    gift_out ec giver receiver acts_ (RepliesWith caller mark state serves g r) m =
        subst M r (mute.enters caller ec (waits_edge k caller ec (awaited _ k.contexts ec caller mark (acting_one k cpu ec acts_) serves t.sound.kept.served).waits) (subst M (sym g) m))
    gift_out ec giver receiver acts_ (GivesFirst state g) m = mute.firsts ec receiver state (subst M (sym g) m)

    -- a mute domain calls, and sends exits to, its own
    portal_own : (c : Derivation) (portal handler mtd ip right : ℕ) → Contains k.delegations.list c → c.kind ≡ Obj → M c.pd → c.target ≡ portal → slice_get k.objects portal ≡ Some (Pt handler mtd ip) →
        (controls_alone c.rights (Some (Pt handler mtd ip)) ≡ true → not (allows c.rights right) ≡ true) → allows c.rights right ≡ true → M (pd_of k handler)
    portal_own c portal handler mtd ip right there kind m leads at off on = by_held (mute.holds c there kind m (pd_of k handler) (ap (domain_of k c.target) is))
      where
        is : slice_get k.objects c.target ≡ Some (Pt handler mtd ip)
        is = ap (slice_get k.objects) leads ∙ at

        by_held : M (pd_of k handler) ⊎ (controls_alone c.rights (slice_get k.objects c.target) ≡ true) → M (pd_of k handler)
        by_held (inl own) = own
        by_held (inr alone) = absurd (not_both (allows c.rights right) on (off (subst (λ (o : Option Object). controls_alone c.rights o ≡ true) is alone)))

    pub calls_own : (ec handler : ℕ) → CallsAt k ec handler ⊎ ExitsAt k ec handler → M (pd_of k ec) → M (pd_of k handler)
    calls_own ec handler (inl c) m =
        let d = c.held.at.capability in
        portal_own d c.portal handler c.mtd c.ip call_right c.held.at.held.there c.held.at.held.kind (subst M (sym c.held.at.held.holder) m) c.held.at.leads c.object
        (λ alone. (and_parts (not (allows d.rights call_right)) (not (allows d.rights event_right)) alone).0) c.held.at.allowed
    calls_own ec handler (inr c) m =
        let d = c.held.capability in
        portal_own d c.portal handler c.mtd c.ip event_right c.held.held.there c.held.held.kind (subst M (sym c.held.held.holder) m) c.held.leads c.object
        (λ alone. (and_parts (not (allows d.rights call_right)) (not (allows d.rights event_right)) alone).1) c.held.allowed

    -- and no side calls it, or sends exits there
    calls_not : (ec handler : ℕ) → CallsAt k ec handler ⊎ ExitsAt k ec handler → label (pd_of k ec) ≢ 0 → M (pd_of k handler) → ⊥
    calls_not ec handler (inl c) some m =
        let d = c.held.at.capability in
        mute.unreached d c.held.at.held.there c.held.at.held.kind (λ none. some (ap label (sym c.held.at.held.holder) ∙ none)) (pd_of k handler)
        (ap (domain_of k d.target) (ap (slice_get k.objects) c.held.at.leads ∙ c.object)) m
    calls_not ec handler (inr c) some m =
        let d = c.held.capability in
        mute.unreached d c.held.held.there c.held.held.kind (λ none. some (ap label (sym c.held.held.holder) ∙ none)) (pd_of k handler)
        (ap (domain_of k d.target) (ap (slice_get k.objects) c.held.leads ∙ c.object)) m

    portal_handler : (ec handler : ℕ) → CallsAt k ec handler ⊎ ExitsAt k ec handler → IsEc k handler
    portal_handler ec handler (inl c) = handler_at c.portal handler c.mtd c.ip c.object
    portal_handler ec handler (inr c) = handler_at c.portal handler c.mtd c.ip c.object

    module _ (apart : AreSeparate k S T) (none : (n : ℕ) → T n → ⊥) (sides : (n : ℕ) → S n → (label n ≢ 0) ⊎ (B n ⊎ M n))
        (empty : (d : Derivation) → Contains k.delegations.list d → d.kind ≡ Obj → B d.pd → ⊥) where
      -- the context that acts is of a side, or of a domain that is bare or mute
      actor_in : (ec : ℕ) → Acts k cpu ec → (label (pd_of k ec) ≢ 0) ⊎ (B (pd_of k ec) ⊎ M (pd_of k ec))
      actor_in ec acts_ = by_set (acts_in k S T cpu ec apart acts_)
        where
          by_set : IsMember k S ec ⊎ IsMember k T ec → (label (pd_of k ec) ≢ 0) ⊎ (B (pd_of k ec) ⊎ M (pd_of k ec))
          by_set (inl m) = sides (pd_of k ec) (member_pd k S ec m)
          by_set (inr m) = absurd (none m.domain m.of)

      giver_in : (ec giver receiver : ℕ) → Acts k cpu ec → GivesTo k ec giver receiver → (label giver ≢ 0) ⊎ (B giver ⊎ M giver)
      giver_in ec giver receiver acts_ gives = by_set (acts_in k S T cpu ec apart acts_)
        where
          by_set : IsMember k S ec ⊎ IsMember k T ec → (label giver ≢ 0) ⊎ (B giver ⊎ M giver)
          by_set (inl m) = sides giver (gives_in k S ec giver receiver t.sound apart.first (acting_one k cpu ec acts_) m gives).0
          by_set (inr m) = absurd (none m.domain m.of)

      -- WHAT IT HOLDS

      holder_old : (d : Derivation) → Contains k.delegations.list d → more k M cpu d.pd → M d.pd
      holder_old d there m = was_in k M cpu d.pd (t.homed.holders d there) m

      abbrev Held : Derivation → ℕ → Type 0
      Held d n = more k M cpu n ⊎ (controls_alone d.rights (slice_get new.objects d.target) ≡ true)

      held_made : (ec : ℕ) (d : Derivation) (o : Object) → Acts k cpu ec → IsFirstCapability k ec o d → slice_get new.objects d.target ≡ Some o → M (pd_of k ec) → (n : ℕ) → domain_of new d.target (Some o) ≡ Some n → Held d n
      held_made ec d Pd acts_ first is m n to =
          let number : n ≡ length k.objects = sym (same_Some d.target n to) ∙ first.target in
          inl (inr (record { maker = ec; acts = acts_; of = as_member k M ec (actor_ec ec acts_) m; number = number; made = subst (λ (i : ℕ). slice_get new.objects i ≡ Some Pd) (same_Some d.target n to) is }))
      held_made ec d (Ec pd its kind event) acts_ first is m n to =
          by_creator (mute.holds c.capability c.there c.kind (subst M (sym (c.held ∙ first.pd)) m) c.capability.target (ap (domain_of k c.capability.target) c.leads))
        where
          c : MayCreate k d.pd
          c = first.creator

          by_creator : M c.capability.target ⊎ (controls_alone c.capability.rights (slice_get k.objects c.capability.target) ≡ true) → Held d n
          by_creator (inl own) = inl (inl (subst M (sym first.place ∙ same_Some pd n to) own))
          by_creator (inr alone) = absurd (not_both (allows c.capability.rights create_right) c.create (subst (λ (p : Option Object). controls_alone c.capability.rights p ≡ true) c.leads alone))
      held_made ec d (Sc donor its priority quantum) acts_ first is m n to = inr (ap (controls_alone d.rights) is)
      held_made ec d (Pt handler mtd ip) acts_ first is m n to =
          by_binder (mute.holds b.capability b.there b.kind (subst M (sym (b.held ∙ first.pd)) m) h.domain (ap (domain_of k b.capability.target) at))
        where
          b : MayUse k d.pd is_local bind_portal_right handler
          b = first.bound

          h : IsEc k handler
          h = local_ec k handler b.leads

          at : slice_get k.objects b.capability.target ≡ Some (Ec h.domain h.cpu h.kind h.event)
          at = ap (slice_get k.objects) b.target ∙ h.object

          by_binder : M h.domain ⊎ (controls_alone b.capability.rights (slice_get k.objects b.capability.target) ≡ true) → Held d n
          by_binder (inl own) = inl (inl (subst M (sym (ap pd_in h.object) ∙ sym (was_domain handler h) ∙ same_Some (pd_of new handler) n to) own))
          by_binder (inr alone) =
              absurd (not_both (allows b.capability.rights bind_portal_right) b.allowed
              (and_parts (not (allows b.capability.rights bind_portal_right)) (not (allows b.capability.rights bind_scheduling_right))
              (subst (λ (p : Option Object). controls_alone b.capability.rights p ≡ true) at alone)).0)
      held_made ec d Sm acts_ first is m n to = absurd (cc)

      holds_after : (d : Derivation) → Contains new.delegations.list d → d.kind ≡ Obj → more k M cpu d.pd → (n : ℕ) → target_domain new d ≡ Some n → Held d n
      holds_after d there kind m n to = by_whence (whence k cpu d t.sound.forest there)
        where
          kept : (e : Derivation) → Contains k.delegations.list e → e.kind ≡ Obj → d.target ≡ e.target → ((r : ℕ) → allows d.rights r ≡ true → allows e.rights r ≡ true) →
              M n ⊎ (controls_alone e.rights (slice_get k.objects e.target) ≡ true) → Held d n
          kept e was its_kind same within (inl own) = inl (inl own)
          kept e was its_kind same within (inr alone) =
              inr (controls_less d.rights e.rights (slice_get new.objects d.target) within (ap (controls_alone e.rights) (object_same d e was its_kind same) ∙ alone))

          by_whence : Whence k cpu d → Held d n
          by_whence (Old was) = kept d was kind refl (λ r h. h) (mute.holds d was kind (holder_old d was m) n (led_before d d was kind refl n to))
          by_whence (Newest ec acts_ o first objects) =
              let is : slice_get new.objects d.target ≡ Some o = ap (slice_get new.objects) first.target ∙ newest_object k cpu o objects in
              let holder : slice_get k.objects d.pd ≡ Some Pd =
              subst (λ (i : ℕ). slice_get k.objects i ≡ Some Pd) first.creator.held (t.homed.holders first.creator.capability first.creator.there) in
              held_made ec d o acts_ first is (subst M first.pd (was_in k M cpu d.pd holder m)) n (sym (ap (domain_of new d.target) is) ∙ to)
          by_whence (Child ec acts_ source was within gives) =
              let receiver = receiver_there k ec source.pd d.pd t.sound t.homed (acting_one k cpu ec acts_) gives in
              let giver : M source.pd = gift_in ec source.pd d.pd acts_ gives (was_in k M cpu d.pd receiver m) in
              let its_kind : source.kind ≡ Obj = sym within.kind ∙ kind in
              let same : d.target ≡ source.target = child_target d source its_kind (order_none k source t.sound.forest was its_kind) within in
              kept source was its_kind same within.rights (mute.holds source was its_kind giver n (led_before d source was its_kind same n to))

      -- WHAT LEADS TO IT

      unreached_made : (ec : ℕ) (d : Derivation) (o : Object) → Acts k cpu ec → IsFirstCapability k ec o d → label d.pd ≢ 0 → slice_get new.objects d.target ≡ Some o → (n : ℕ) → domain_of new d.target (Some o) ≡ Some n →
          more k M cpu n → ⊥
      unreached_made ec d Pd acts_ first some is n to (inl m) = not_next k n (mute.there n m) (sym (same_Some d.target n to) ∙ first.target)
      unreached_made ec d Pd acts_ first some is n to (inr joins) =
          some (ap label first.pd ∙ mute.trusted (pd_of k ec) (subst (λ (e : ℕ). M (pd_of k e)) (acts_one k cpu joins.maker ec joins.acts acts_) (member_pd k M joins.maker joins.of)))
      unreached_made ec d (Ec pd its kind event) acts_ first some is n to m =
          mute.unreached c.capability c.there c.kind (λ none_. some (ap label (sym c.held) ∙ none_)) c.capability.target (ap (domain_of k c.capability.target) c.leads)
          (was_in k M cpu c.capability.target c.leads (subst (more k M cpu) (sym (same_Some pd n to) ∙ first.place) m))
        where
          c : MayCreate k d.pd
          c = first.creator
      unreached_made ec d (Sc donor its priority quantum) acts_ first some is n to m =
          mute.unreached b.capability b.there b.kind (λ none_. some (ap label (sym b.held) ∙ none_)) h.domain (ap (domain_of k b.capability.target) (ap (slice_get k.objects) b.target ∙ h.object))
          (subst M (ap pd_in h.object) (was_mute donor h (subst (more k M cpu) (sym (same_Some (pd_of new donor) n to)) m)))
        where
          b : MayUse k d.pd is_schedulable bind_scheduling_right donor
          b = first.bound.bound

          h : IsEc k donor
          h = schedulable_ec k donor b.leads
      unreached_made ec d (Pt handler mtd ip) acts_ first some is n to m =
          mute.unreached b.capability b.there b.kind (λ none_. some (ap label (sym b.held) ∙ none_)) h.domain (ap (domain_of k b.capability.target) (ap (slice_get k.objects) b.target ∙ h.object))
          (subst M (ap pd_in h.object) (was_mute handler h (subst (more k M cpu) (sym (same_Some (pd_of new handler) n to)) m)))
        where
          b : MayUse k d.pd is_local bind_portal_right handler
          b = first.bound

          h : IsEc k handler
          h = local_ec k handler b.leads
      unreached_made ec d Sm acts_ first some is n to m = absurd (cc)

      unreached_after : (d : Derivation) → Contains new.delegations.list d → d.kind ≡ Obj → labels_after k label cpu d.pd ≢ 0 → (n : ℕ) → target_domain new d ≡ Some n → more k M cpu n → ⊥
      unreached_after d there kind some n to m = by_whence (whence k cpu d t.sound.forest there)
        where
          was_side : slice_get k.objects d.pd ≡ Some Pd → label d.pd ≢ 0
          was_side is none_ = some (labels_old k label cpu d.pd (slice_get_within k.objects d.pd Pd is) ∙ none_)

          kept : (e : Derivation) → Contains k.delegations.list e → e.kind ≡ Obj → d.target ≡ e.target → label e.pd ≢ 0 → ⊥
          kept e was its_kind same sided =
              mute.unreached e was its_kind sided n (led_before d e was its_kind same n to) (was_in k M cpu n (led_there d e was its_kind same n to) m)

          by_giver : (ec : ℕ) (source : Derivation) → Acts k cpu ec → GivesTo k ec source.pd d.pd → Contains k.delegations.list source → IsWithin d source → label d.pd ≢ 0 → (label source.pd ≢ 0) ⊎ (B source.pd ⊎ M source.pd) → ⊥
          by_giver ec source acts_ gives was within sided (inl its) =
              let its_kind : source.kind ≡ Obj = sym within.kind ∙ kind in
              kept source was its_kind (child_target d source its_kind (order_none k source t.sound.forest was its_kind) within) its
          by_giver ec source acts_ gives was within sided (inr (inl b)) = empty source was (sym within.kind ∙ kind) b
          by_giver ec source acts_ gives was within sided (inr (inr g)) = sided (mute.trusted d.pd (gift_out ec source.pd d.pd acts_ gives g))

          by_whence : Whence k cpu d → ⊥
          by_whence (Old was) = kept d was kind refl (was_side (t.homed.holders d was))
          by_whence (Newest ec acts_ o first objects) =
              let is : slice_get new.objects d.target ≡ Some o = ap (slice_get new.objects) first.target ∙ newest_object k cpu o objects in
              let holder : slice_get k.objects d.pd ≡ Some Pd =
              subst (λ (i : ℕ). slice_get k.objects i ≡ Some Pd) first.creator.held (t.homed.holders first.creator.capability first.creator.there) in
              unreached_made ec d o acts_ first (was_side holder) is n (sym (ap (domain_of new d.target) is) ∙ to) m
          by_whence (Child ec acts_ source was within gives) =
              by_giver ec source acts_ gives was within (was_side (receiver_there k ec source.pd d.pd t.sound t.homed (acting_one k cpu ec acts_) gives)) (giver_in ec source.pd d.pd acts_ gives)

      -- WHICH CONTEXTS WAIT, AND FIRST RANGES

      enters_after : (waiter handler : ℕ) → edge new.contexts waiter ≡ Some handler → more k M cpu (pd_of new handler) → more k M cpu (pd_of new waiter)
      enters_after waiter handler is m = elim (edge_came k cpu waiter handler t.rightful is) [
        | inl was ↦ is_mute_still waiter (edge_ec k waiter handler t.fits.tables was) (mute.enters waiter handler was (was_mute handler (local_ec k handler (t.local waiter handler was)) m))
        | inr now ↦ is_mute_still waiter (actor_ec waiter now.0) (by_actor now.1 (was_mute handler (portal_handler waiter handler now.1) m) (actor_in waiter now.0))
      ]
        where
          by_actor : CallsAt k waiter handler ⊎ ExitsAt k waiter handler → M (pd_of k handler) → (label (pd_of k waiter) ≢ 0) ⊎ (B (pd_of k waiter) ⊎ M (pd_of k waiter)) → M (pd_of k waiter)
          by_actor by its (inl some) = absurd (calls_not waiter handler by some its)
          by_actor (inl c) its (inr (inl b)) = absurd (empty c.held.at.capability c.held.at.held.there c.held.at.held.kind (subst B (sym c.held.at.held.holder) b))
          by_actor (inr c) its (inr (inl b)) = absurd (empty c.held.capability c.held.held.there c.held.held.kind (subst B (sym c.held.held.holder) b))
          by_actor by its (inr (inr own)) = own

      leaves_after : (waiter handler : ℕ) → edge new.contexts waiter ≡ Some handler → more k M cpu (pd_of new waiter) → more k M cpu (pd_of new handler)
      leaves_after waiter handler is m = elim (edge_came k cpu waiter handler t.rightful is) [
        | inl was ↦ is_mute_still handler (local_ec k handler (t.local waiter handler was)) (mute.leaves waiter handler was (was_mute waiter (edge_ec k waiter handler t.fits.tables was) m))
        | inr now ↦ is_mute_still handler (portal_handler waiter handler now.1) (calls_own waiter handler now.1 (was_mute waiter (actor_ec waiter now.0) m))
      ]

      giver_ec : (ec domain : ℕ) → (context k ec).state ≡ Granting (Some domain) → IsEc k ec
      giver_ec ec domain was = let x = grant_there k ec (Some domain) was in context_ec k ec t.fits.tables (ap (λ (o : Option EcState). is_some o) x.1)

      firsts_after : (ec domain : ℕ) → (context new ec).state ≡ Granting (Some domain) → more k M cpu (pd_of new ec) → more k M cpu domain
      firsts_after ec domain is m = elim (came k cpu ec (Granting (Some domain)) tt is) [
        | inl was ↦ inl (mute.firsts ec domain was (was_mute ec (giver_ec ec domain was) m))
        | inr now ↦
            let opened = opened_now k cpu ec domain now.0 now.1 in
            let its = actor_ec ec now.0 in
            inr (record { maker = ec; acts = now.0; of = as_member k M ec its (was_mute ec its m); number = sym opened.0; made = opened.1 })
      ]

      given_after : (ec domain : ℕ) → (context new ec).state ≡ Granting (Some domain) → more k M cpu domain → more k M cpu (pd_of new ec)
      given_after ec domain is m = elim (came k cpu ec (Granting (Some domain)) tt is) [
        | inl was ↦ is_mute_still ec (giver_ec ec domain was) (mute.given ec domain was (was_in k M cpu domain (t.homed.opened ec domain was) m))
        | inr now ↦ by_now now.0 (opened_now k cpu ec domain now.0 now.1).0 m
      ]
        where
          by_now : Acts k cpu ec → length k.objects ≡ domain → more k M cpu domain → more k M cpu (pd_of new ec)
          by_now acts_ next (inl own) = absurd (not_next k domain (mute.there domain own) (sym next))
          by_now acts_ next (inr joins) =
              is_mute_still ec (actor_ec ec acts_) (subst (λ (e : ℕ). M (pd_of k e)) (acts_one k cpu joins.maker ec joins.acts acts_) (member_pd k M joins.maker joins.of))

      pub mute_after : AreMute new (labels_after k label cpu) (more k S cpu) (more k M cpu)
      mute_after = record {
        trusted = trusted;
        there = there;
        within = within;
        holds = holds_after;
        unreached = unreached_after;
        enters = enters_after;
        leaves = leaves_after;
        firsts = firsts_after;
        given = given_after;
      }
        where
          trusted : (n : ℕ) → more k M cpu n → labels_after k label cpu n ≡ 0
          trusted n (inl m) = labels_old k label cpu n (slice_get_within k.objects n Pd (mute.there n m)) ∙ mute.trusted n m
          trusted n (inr made) = ap (labels_after k label cpu) made.number ∙ labels_made k label cpu made.maker made.acts ∙ mute.trusted (pd_of k made.maker) (member_pd k M made.maker made.of)

          there : (n : ℕ) → more k M cpu n → slice_get new.objects n ≡ Some Pd
          there n (inl m) = object_kept k cpu n Pd (mute.there n m)
          there n (inr made) = made.made

          within : (n : ℕ) → more k M cpu n → more k S cpu n
          within n (inl m) = inl (mute.within n m)
          within n (inr made) =
              let o = made.of in
              inr (record { maker = made.maker; acts = made.acts; of = record { domain = o.domain; cpu = o.cpu; kind = o.kind; event = o.event; object = o.object; of = mute.within o.domain o.of }; number = made.number; made = made.made })
