-- What a side commands stays its own over a turn in which no trusted domain gives it a capability.
use Rattle.std.proofs.Common.{◌≡◌, ◌≢◌, ◌⊎◌, ◌<◌, ℕ, length, refl, sym, ap, ◌∙◌, subst, inl, inr}
use Rattle.std.specs.Prelude.{◌||◌, Bool, true, false, Contains, slice_get, Option, Some, None}
use Rattle.std.proofs.lemmas.Option.{slice_get_within}
use Rattle.nova_objects.specs.declared.object.Object.{Object}
use Rattle.nova_objects.specs.declared.object.Object.TheVariants.{Pd, Ec, Sc, Pt, Sm}
use Rattle.nova_range.specs.Rights.{allows}
use Rattle.nova_range.specs.declared.range.Kind.TheVariants.{Obj}
use Rattle.nova_range.specs.declared.rights.Rights.{Rights}
use Rattle.nova_model.specs.Capabilities.{bind_portal_right, bind_scheduling_right, control_right, create_right}
use Rattle.nova_model.specs.Runs.{after}
use Rattle.nova_model.specs.State.{KernelState, pd_of}
use Rattle.nova_model.specs.declared.delegation.Derivation.{Derivation}
use Rattle.law_forest.specs.Made.{IsFirstCapability}
use Rattle.law_turns.specs.Tables.{Refers}
use Rattle.law_turns.proofs.Links.{place}
use Rattle.law_origins.specs.Giving.{Acts}
use Rattle.law_integrity.specs.Confined.{IsMember, IsOwned}
use Rattle.law_integrity.specs.Rights.{GivesTo}
use Rattle.law_integrity.specs.Trusted.{IsWithinPolicy, Labelled, OrTrusted, labels_after}
use Rattle.law_integrity.proofs.Confining.{Child, Newest, Old, Whence, acting_one, child_target, newest_object, object_kept, order_none, whence}
use Rattle.law_integrity.proofs.Edges.{at_index}
use Rattle.law_integrity.proofs.Homes.{receiver_there}
use Rattle.law_integrity.proofs.Labels.{IsEc, IsTaken, labels_made, labels_old, local_ec}
use Rattle.law_integrity.proofs.Policy.{side_gives}
use Rattle.law_sides.specs.Isolated.{CommandOwn, commands, commands_any}
use Rattle.law_sides.proofs.Controls.{schedulable_ec}

-- MORE RIGHTS COMMAND MORE

or_first : (a b : Bool) → a ≡ true → (a || b) ≡ true
or_first true b is = refl
or_first false b is = absurd (cc)

or_second : (a b : Bool) → b ≡ true → (a || b) ≡ true
or_second true b is = refl
or_second false b is = is

or_more : (a b c d : Bool) → (a ≡ true → c ≡ true) → (b ≡ true → d ≡ true) → (a || b) ≡ true → (c || d) ≡ true
or_more true b c d first second is = or_first c d (first refl)
or_more false b c d first second is = or_second c d (second is)

commands_more : (rights more_ : Rights) (o : Option Object) → ((r : ℕ) → allows rights r ≡ true → allows more_ r ≡ true) → commands_any rights o ≡ true → commands_any more_ o ≡ true
commands_more rights more_ (Some Pd) within is = within create_right is
commands_more rights more_ (Some (Ec pd cpu kind event)) within is =
    or_more (allows rights control_right) (allows rights bind_scheduling_right || allows rights bind_portal_right) (allows more_ control_right) (allows more_ bind_scheduling_right || allows more_ bind_portal_right)
    (within control_right)
    (or_more (allows rights bind_scheduling_right) (allows rights bind_portal_right) (allows more_ bind_scheduling_right) (allows more_ bind_portal_right) (within bind_scheduling_right) (within bind_portal_right)) is
commands_more rights more_ (Some (Sc donor cpu priority quantum)) within is = within control_right is
commands_more rights more_ (Some (Pt handler mtd ip)) within is = within control_right is
commands_more rights more_ (Some Sm) within is = absurd (cc)
commands_more rights more_ None within is = absurd (cc)

-- who is trusted gives a side no capability in its turn
abbrev pub GivesNone : KernelState → (ℕ → ℕ) → ℕ → Type 0
GivesNone k label cpu =
    (ec : ℕ) → Acts k cpu ec → label (pd_of k ec) ≡ 0 → (d source : Derivation) → Contains k.delegations.list source → source.kind ≡ Obj → label d.pd ≢ 0 → GivesTo k ec source.pd d.pd → ⊥

module _ {shared : ℕ → Bool} (k : KernelState) (label : ℕ → ℕ) (cpu : ℕ) (t : IsTaken k cpu) (policy : IsWithinPolicy shared k label) (own : CommandOwn k label) (none : GivesNone k label cpu) where
  abbrev later : ℕ → ℕ
  later = labels_after k label cpu

  -- WHAT IS A SIDE'S STAYS SO

  home : (n : ℕ) (m : IsEc k n) → slice_get k.objects m.domain ≡ Some Pd
  home n m = at_index (Refers k.objects) k.objects n (Ec m.domain m.cpu m.kind m.event) t.fits.tables.refer m.object

  member_later : (side n : ℕ) → (m : IsEc k n) → label m.domain ≡ side → IsMember (after k cpu) (Labelled later side) n
  member_later side n m of = record {
    domain = m.domain;
    cpu = m.cpu;
    kind = m.kind;
    event = m.event;
    object = object_kept k cpu n (Ec m.domain m.cpu m.kind m.event) m.object;
    of = labels_old k label cpu m.domain (slice_get_within k.objects m.domain Pd (home n m)) ∙ of;
  }

  as_ec : (side n : ℕ) → IsMember k (Labelled label side) n → IsMember (after k cpu) (Labelled later side) n
  as_ec side n m = member_later side n (record { domain = m.domain; cpu = m.cpu; kind = m.kind; event = m.event; object = m.object; of = tt }) m.of

  kept : (side n : ℕ) (o : Object) → slice_get k.objects n ≡ Some o → IsOwned k (Labelled label side) n (Some o) → IsOwned (after k cpu) (Labelled later side) n (Some o)
  kept side n Pd at its = labels_old k label cpu n (slice_get_within k.objects n Pd at) ∙ its
  kept side n (Ec pd cpu_ kind event) at its =
      labels_old k label cpu pd (slice_get_within k.objects pd Pd (at_index (Refers k.objects) k.objects n (Ec pd cpu_ kind event) t.fits.tables.refer at)) ∙ its
  kept side n (Sc donor cpu_ priority quantum) at its = as_ec side donor its
  kept side n (Pt handler mtd ip) at its = as_ec side handler its
  kept side n Sm at its = tt

  -- WHAT ONE OF A SIDE MAKES

  module _ (ec : ℕ) (acts_ : Acts k cpu ec) (some : label (pd_of k ec) ≢ 0) where
    held_own : (c : Derivation) (o : Object) → Contains k.delegations.list c → c.kind ≡ Obj → c.pd ≡ pd_of k ec → slice_get k.objects c.target ≡ Some o → commands c.rights o ≡ true →
        IsOwned k (Labelled label (label (pd_of k ec))) c.target (Some o)
    held_own c o there kind holder at power =
        subst (λ (n : ℕ). IsOwned k (Labelled label (label n)) c.target (Some o)) holder (subst (IsOwned k (Labelled label (label c.pd)) c.target) at
        (own c there kind (λ nobody. some (ap label (sym holder) ∙ nobody)) (ap (commands_any c.rights) at ∙ power)))

    made : (d : Derivation) (o : Object) → IsFirstCapability k ec o d → IsOwned (after k cpu) (Labelled later (label (pd_of k ec))) (length k.objects) (Some o)
    made d Pd f = labels_made k label cpu ec acts_
    made d (Ec pd its kind event) f =
        let c = f.creator in
        let mine : label c.capability.target ≡ label (pd_of k ec) = held_own c.capability Pd c.there c.kind (c.held ∙ f.pd) c.leads c.create in
        ap later f.place ∙ labels_old k label cpu c.capability.target (slice_get_within k.objects c.capability.target Pd c.leads) ∙ mine
    made d (Sc donor its priority quantum) f =
        let b = f.bound.bound in
        let e = schedulable_ec k donor b.leads in
        member_later (label (pd_of k ec)) donor e
        (held_own b.capability (Ec e.domain e.cpu e.kind e.event) b.there b.kind (b.held ∙ f.pd) (ap (slice_get k.objects) b.target ∙ e.object)
        (or_second (allows b.capability.rights control_right) (allows b.capability.rights bind_scheduling_right || allows b.capability.rights bind_portal_right)
        (or_first (allows b.capability.rights bind_scheduling_right) (allows b.capability.rights bind_portal_right) b.allowed)))
    made d (Pt handler mtd ip) f =
        let b = f.bound in
        let e = local_ec k handler b.leads in
        member_later (label (pd_of k ec)) handler e
        (held_own b.capability (Ec e.domain e.cpu e.kind e.event) b.there b.kind (b.held ∙ f.pd) (ap (slice_get k.objects) b.target ∙ e.object)
        (or_second (allows b.capability.rights control_right) (allows b.capability.rights bind_scheduling_right || allows b.capability.rights bind_portal_right)
        (or_second (allows b.capability.rights bind_scheduling_right) (allows b.capability.rights bind_portal_right) b.allowed)))
    made d Sm f = tt

  -- A TURN

  -- of a capability that was there
  old : (d : Derivation) → Contains k.delegations.list d → d.kind ≡ Obj → label d.pd ≢ 0 → (rights : Rights) → ((r : ℕ) → allows rights r ≡ true → allows d.rights r ≡ true) →
      commands_any rights (slice_get (after k cpu).objects d.target) ≡ true → IsOwned (after k cpu) (Labelled later (label d.pd)) d.target (slice_get (after k cpu).objects d.target)
  old d was kind some rights within power =
      let o = t.homed.targets d was kind in
      let same : slice_get (after k cpu).objects d.target ≡ Some o.0 = object_kept k cpu d.target o.0 o.1 in
      let its : commands_any d.rights (Some o.0) ≡ true = commands_more rights d.rights (Some o.0) within (ap (commands_any rights) (sym same) ∙ power) in
      subst (IsOwned (after k cpu) (Labelled later (label d.pd)) d.target) (sym same)
      (kept (label d.pd) d.target o.0 o.1 (subst (IsOwned k (Labelled label (label d.pd)) d.target) o.1 (own d was kind some (ap (commands_any d.rights) o.1 ∙ its))))

  below : (d : Derivation) → Contains k.delegations.list d → d.pd < length k.objects
  below d was = slice_get_within k.objects d.pd Pd (t.homed.holders d was)

  pub powers_after : CommandOwn (after k cpu) (labels_after k label cpu)
  powers_after d now kind side power = by_whence (whence k cpu d t.sound.forest now)
    where
      Its : ℕ → ℕ → Type 0
      Its s n = IsOwned (after k cpu) (Labelled later s) n (slice_get (after k cpu).objects n)

      by_whence : Whence k cpu d → Its (later d.pd) d.target
      by_whence (Old was) =
          let same = labels_old k label cpu d.pd (below d was) in
          subst (λ (s : ℕ). Its s d.target) (sym same) (old d was kind (λ nobody. side (same ∙ nobody)) d.rights (λ r has. has) power)
      by_whence (Newest ec acts_ o first objects) =
          let c = first.creator in
          let there : d.pd < length k.objects = subst (λ (n : ℕ). n < length k.objects) c.held (below c.capability c.there) in
          let same : later d.pd ≡ label (pd_of k ec) = labels_old k label cpu d.pd there ∙ ap label first.pd in
          subst (λ (s : ℕ). Its s d.target) (sym same) (subst (Its (label (pd_of k ec))) (sym first.target)
          (subst (IsOwned (after k cpu) (Labelled later (label (pd_of k ec))) (length k.objects)) (sym (newest_object k cpu o objects))
          (made ec acts_ (λ nobody. side (same ∙ nobody)) d o first)))
      by_whence (Child ec acts_ source was within gives) =
          by_label (labels_old k label cpu d.pd (slice_get_within k.objects d.pd Pd (receiver_there k ec source.pd d.pd t.sound t.homed (acting_one k cpu ec acts_) gives))) (place (label (pd_of k ec)) 0)
        where
          source_kind : source.kind ≡ Obj
          source_kind = sym within.kind ∙ kind

          target : d.target ≡ source.target
          target = child_target d source source_kind (order_none k source t.sound.forest was source_kind) within

          one : OrTrusted label (label (pd_of k ec)) d.pd → label d.pd ≢ 0 → label d.pd ≡ label (pd_of k ec)
          one (inl same) some = same
          one (inr trusted) some = absurd (some trusted)

          by_label : later d.pd ≡ label d.pd → (label (pd_of k ec) ≡ 0) ⊎ (label (pd_of k ec) ≢ 0) → Its (later d.pd) d.target
          by_label same (inl trusted) = absurd (none ec acts_ trusted d source was source_kind (λ nobody. side (same ∙ nobody)) gives)
          by_label same (inr other) =
              let both = side_gives k label ec source.pd d.pd t.sound policy (acting_one k cpu ec acts_) other gives in
              let its : label source.pd ≡ later d.pd = both.0 ∙ sym (one both.1 (λ nobody. side (same ∙ nobody))) ∙ sym same in
              subst (λ (s : ℕ). Its s d.target) its (subst (Its (label source.pd)) (sym target)
              (old source was source_kind (λ nobody. side (sym its ∙ nobody)) d.rights within.rights
              (ap (λ (n : ℕ). commands_any d.rights (slice_get (after k cpu).objects n)) (sym target) ∙ power)))
