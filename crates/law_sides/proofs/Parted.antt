-- Where each trusted domain is at rest, bare or mute: the sides with the bare and the mute domains are a closed set, beside which all is idle; and the mute ones are mute.
use Rattle.std.proofs.Common.{◌≡◌, ◌≢◌, ◌⊎◌, ℕ, refl, sym, ap, ◌∙◌, subst, inl, inr}
use Rattle.std.specs.Prelude.{◌==◌, Bool, true, false, not, Contains, is_some, slice_get, Option, Some, None}
use Rattle.std.proofs.lemmas.Bool.{and_parts, eq-eqb, eqb-true, ne_eqb}
use Rattle.nova_objects.specs.declared.object.Object.{Object}
use Rattle.nova_objects.specs.declared.object.Object.TheVariants.{Pd, Ec, Sc, Pt, Sm}
use Rattle.nova_range.specs.declared.range.Kind.TheVariants.{Obj}
use Rattle.nova_model.specs.Edges.{edge, edge_of}
use Rattle.nova_model.specs.State.{KernelState, context, context_at, pd_in, pd_of}
use Rattle.nova_model.specs.declared.context.EcState.{EcState}
use Rattle.nova_model.specs.declared.context.State.{State}
use Rattle.nova_model.specs.declared.context.State.TheVariants.{Blocked, Dead, Granting, Parked}
use Rattle.nova_model.specs.declared.delegation.Derivation.{Derivation}
use Rattle.law_turns.proofs.Links.{place}
use Rattle.law_turns.proofs.TablesFit.{TablesFit}
use Rattle.law_turns.specs.Tables.{HasTables, Refers}
use Rattle.law_integrity.specs.Confined.{AreSeparate, IsIdle, IsMember, IsOwned}
use Rattle.law_integrity.specs.Trusted.{IsWithinPolicy, MayWait, OrTrusted}
use Rattle.law_integrity.proofs.Confining.{member_pd}
use Rattle.law_integrity.proofs.Edges.{at_index}
use Rattle.law_integrity.proofs.Labels.{IsEc, context_ec, edge_ec, local_ec}
use Rattle.law_turns.specs.Giving.{gives_no_first}
use Rattle.law_sides.specs.Resting.{is_resting, is_resting_in}
use Rattle.law_sides.specs.Roles.{AreHarmless, controls_alone, domain_of, is_bare, is_controlled, is_mute, is_no_grant, is_none_or, is_other, is_side, is_uncalled, target_domain, waits_for_none, waits_within, waits_without}
use Rattle.law_sides.proofs.Entries.{as_member, edge_there, grant_there}
use Rattle.law_sides.proofs.Muted.{AreMute}
use Rattle.law_sides.proofs.Roles.{Bare, IsBare, IsMute, Living, Mute, Rests, Role, bare_context, bare_holds, mute_context, mute_own, mute_unreached, rest_resting, rest_unreached, role, side_context}
use Rattle.law_sides.proofs.Stuck.{Nowhere, RaisesByActing, idle_from, nowhere_closed}
use Rattle.law_sides.proofs.Words.{donor_ec}

-- STATES

no_wait : (s : State) (h : ℕ) → waits_for_none (edge_of s) ≡ true → edge_of s ≡ Some h → ⊥
no_wait s h none is = let off : waits_for_none (Some h) ≡ true = subst (λ (o : Option ℕ). waits_for_none o ≡ true) is none in cc

pub resting_waits : (k : KernelState) (acting : ℕ → Bool) (cpu : ℕ) (s : State) (h : ℕ) → is_resting_in k acting cpu s ≡ true → edge_of s ≡ Some h → ⊥
resting_waits k acting cpu Parked h rests is = cc
resting_waits k acting cpu Dead h rests is = cc
resting_waits k acting cpu (Blocked sm) h rests is = cc
resting_waits k acting cpu other h rests is = cc

resting_grant : (k : KernelState) (acting : ℕ → Bool) (cpu : ℕ) (new : Option ℕ) (s : State) → is_resting_in k acting cpu s ≡ true → s ≡ Granting new → ⊥
resting_grant k acting cpu new s rests is = let off : is_resting_in k acting cpu (Granting new) ≡ true = subst (λ (q : State). is_resting_in k acting cpu q ≡ true) is rests in cc

module _ {shared : ℕ → Bool} (k : KernelState) (label : ℕ → ℕ) (fits : TablesFit k) (policy : IsWithinPolicy shared k label) (harmless : AreHarmless k label) where
  tables : HasTables k
  tables = fits.tables

  abbrev pub S : ℕ → Type 0
  S = Living k label

  abbrev pub M : ℕ → Type 0
  M = IsMute k label

  home : (n : ℕ) (m : IsEc k n) → slice_get k.objects (pd_of k n) ≡ Some Pd
  home n m = subst (λ (d : ℕ). slice_get k.objects d ≡ Some Pd) (sym (ap pd_in m.object)) (at_index (Refers k.objects) k.objects n (Ec m.domain m.cpu m.kind m.event) tables.refer m.object)

  -- WHAT A SIDE'S CAPABILITY LEADS TO

  module _ (d : Derivation) (there : Contains k.delegations.list d) (kind : d.kind ≡ Obj) (some : label d.pd ≢ 0) where
    reached : (n : ℕ) → target_domain k d ≡ Some n → slice_get k.objects n ≡ Some Pd → OrTrusted label (label d.pd) n → S n
    reached n to at (inl same) = inl (λ none. some (sym same ∙ none))
    reached n to at (inr trusted) = by_role (role k label n harmless trusted at)
      where
        by_role : Role k label n → S n
        by_role (Bare b) = inr (inl b)
        by_role (Rests r others) = absurd (rest_unreached k label tables n r d there kind some to)
        by_role (Mute m) = absurd (mute_unreached k label tables n m.mute d there kind some to)

    reached_member : (e : ℕ) → target_domain k d ≡ Some (pd_of k e) → IsMember k (OrTrusted label (label d.pd)) e → IsMember k S e
    reached_member e to m =
        let its : IsEc k e = record { domain = m.domain; cpu = m.cpu; kind = m.kind; event = m.event; object = m.object; of = tt } in
        as_member k S e its (reached (pd_of k e) to (home e its) (member_pd k (OrTrusted label (label d.pd)) e m))

    owned : (o : Option Object) → slice_get k.objects d.target ≡ o → IsOwned k (OrTrusted label (label d.pd)) d.target o → IsOwned k S d.target o
    owned (Some Pd) at own = reached d.target (ap (domain_of k d.target) at) at own
    owned (Some (Ec pd cpu its event)) at own = reached pd (ap (domain_of k d.target) at) (at_index (Refers k.objects) k.objects d.target (Ec pd cpu its event) tables.refer at) own
    owned (Some (Sc donor cpu priority quantum)) at own = reached_member donor (ap (domain_of k d.target) at) own
    owned (Some (Pt handler mtd ip)) at own = reached_member handler (ap (domain_of k d.target) at) own
    owned (Some Sm) at own = tt
    owned None at own = tt

  -- WHO WAITS FOR WHOM

  pub bare_waits : (waiter handler : ℕ) → edge k.contexts waiter ≡ Some handler → IsBare k label (pd_of k waiter) → ⊥
  bare_waits waiter handler is b =
      let x = edge_there k waiter handler is in
      no_wait x.0.state handler (bare_context k label tables (pd_of k waiter) b.bare waiter x.0 x.1 refl).0 x.2

  rest_waits : (waiter handler : ℕ) (acting : ℕ → Bool) → edge k.contexts waiter ≡ Some handler → ((x : EcState) → context_at k waiter ≡ Some x → is_resting k acting x ≡ true) → ⊥
  rest_waits waiter handler acting is rests = let x = edge_there k waiter handler is in resting_waits k acting x.0.cpu x.0.state handler (rests x.0 x.1) x.2

  mute_waits : (waiter handler : ℕ) → edge k.contexts waiter ≡ Some handler → IsMute k label (pd_of k waiter) → pd_of k handler ≡ pd_of k waiter
  mute_waits waiter handler is m =
      let x = edge_there k waiter handler is in
      eqb-true (pd_of k handler) (pd_of k waiter)
      (subst (λ (o : Option ℕ). waits_within k (pd_of k waiter) o ≡ true) x.2 (mute_context k label tables (pd_of k waiter) m.mute waiter x.0 x.1 refl).0)

  side_waits : (waiter handler : ℕ) → edge k.contexts waiter ≡ Some handler → label (pd_of k waiter) ≢ 0 → IsMute k label (pd_of k handler) → ⊥
  side_waits waiter handler is some m =
      let x = edge_there k waiter handler is in
      let off : not (pd_of k handler == pd_of k handler) ≡ true =
      subst (λ (o : Option ℕ). waits_without k (pd_of k handler) o ≡ true) x.2 (side_context k label tables (pd_of k handler) m.mute waiter x.0 x.1 some) in
      let on : not (pd_of k handler == pd_of k handler) ≡ false = ap not (eq-eqb (pd_of k handler) (pd_of k handler) refl) in
      let both : true ≡ false = sym off ∙ on in cc

  not_other : (n : ℕ) → IsBare k label n → is_bare k label n ≡ false → ⊥
  not_other n b other = let both : true ≡ false = sym b.bare ∙ other in cc

  -- for a mute domain's handlers waits that domain alone
  enters : (waiter handler : ℕ) → edge k.contexts waiter ≡ Some handler → M (pd_of k handler) → M (pd_of k waiter)
  enters waiter handler is m = by_waiter (place (label (pd_of k waiter)) 0)
    where
      its : IsEc k waiter
      its = edge_ec k waiter handler tables is

      by_role : Role k label (pd_of k waiter) → M (pd_of k waiter)
      by_role (Bare w) = absurd (bare_waits waiter handler is w)
      by_role (Rests r others) = absurd (rest_waits waiter handler (is_other (pd_of k waiter)) is (λ x at. rest_resting k label tables (pd_of k waiter) r waiter x at refl))
      by_role (Mute w) = w

      by_waiter : (label (pd_of k waiter) ≡ 0) ⊎ (label (pd_of k waiter) ≢ 0) → M (pd_of k waiter)
      by_waiter (inl trusted) = by_role (role k label (pd_of k waiter) harmless trusted (home waiter its))
      by_waiter (inr some) = absurd (side_waits waiter handler is some m)

  edges_in : (waiter handler : ℕ) → edge k.contexts waiter ≡ Some handler → IsMember k S handler → IsMember k S waiter
  edges_in waiter handler is m = by_handler (member_pd k S handler m)
    where
      its : IsEc k waiter
      its = edge_ec k waiter handler tables is

      by_role : IsBare k label (pd_of k handler) → Role k label (pd_of k waiter) → IsMember k S waiter
      by_role b (Bare w) = absurd (bare_waits waiter handler is w)
      by_role b (Rests r others) = absurd (rest_waits waiter handler (is_other (pd_of k waiter)) is (λ x at. rest_resting k label tables (pd_of k waiter) r waiter x at refl))
      by_role b (Mute w) = absurd (not_other (pd_of k waiter) (subst (IsBare k label) (mute_waits waiter handler is w) b) w.other)

      by_waiter : IsBare k label (pd_of k handler) → (label (pd_of k waiter) ≡ 0) ⊎ (label (pd_of k waiter) ≢ 0) → IsMember k S waiter
      by_waiter b (inl trusted) = by_role b (role k label (pd_of k waiter) harmless trusted (home waiter its))
      by_waiter b (inr some) = as_member k S waiter its (inl some)

      -- what is trusted waits for no side, even as a client, where it is harmless
      by_client : label (pd_of k handler) ≢ 0 → label (pd_of k waiter) ≡ 0 → Role k label (pd_of k waiter) → IsMember k S waiter
      by_client some trusted (Bare w) = absurd (bare_waits waiter handler is w)
      by_client some trusted (Rests r others) = absurd (rest_waits waiter handler (is_other (pd_of k waiter)) is (λ x at. rest_resting k label tables (pd_of k waiter) r waiter x at refl))
      by_client some trusted (Mute w) = absurd (some (ap label (mute_waits waiter handler is w) ∙ trusted))

      by_side : label (pd_of k handler) ≢ 0 → MayWait k label (label (pd_of k handler)) waiter → IsMember k S waiter
      by_side some (inl same) = as_member k S waiter its (inl (λ none. some (sym same ∙ none)))
      by_side some (inr client) = by_client some client.0 (role k label (pd_of k waiter) harmless client.0 (home waiter its))

      by_handler : S (pd_of k handler) → IsMember k S waiter
      by_handler (inl some) = by_side some (policy.edges waiter handler is some)
      by_handler (inr (inl b)) = by_waiter b (place (label (pd_of k waiter)) 0)
      by_handler (inr (inr w)) = as_member k S waiter its (inr (inr (enters waiter handler is w)))

  -- FIRST RANGES

  gives_none : (ec new : ℕ) → (context k ec).state ≡ Granting (Some new) → M (pd_of k ec) → ⊥
  gives_none ec new is w =
      let x = grant_there k ec (Some new) is in
      let off : gives_no_first (Granting (Some new)) ≡ true = subst (λ (s : State). gives_no_first s ≡ true) x.2 (mute_context k label tables (pd_of k ec) w.mute ec x.0 x.1 refl).1 in cc

  pub bare_none : (ec new : ℕ) → (context k ec).state ≡ Granting (Some new) → IsBare k label (pd_of k ec) → ⊥
  bare_none ec new is b =
      let x = grant_there k ec (Some new) is in
      let facts = and_parts (is_no_grant x.0.state) (is_uncalled x.0.caller) (bare_context k label tables (pd_of k ec) b.bare ec x.0 x.1 refl).1 in
      let off : is_no_grant (Granting (Some new)) ≡ true = subst (λ (s : State). is_no_grant s ≡ true) x.2 facts.0 in cc

  firsts_in : (ec new : ℕ) → (context k ec).state ≡ Granting (Some new) → IsMember k S ec → S new
  firsts_in ec new is m = by_giver (member_pd k S ec m)
    where
      by_giver : S (pd_of k ec) → S new
      by_giver (inl some) = inl (λ none. some (sym (policy.firsts ec new is some) ∙ none))
      by_giver (inr (inl b)) = absurd (bare_none ec new is b)
      by_giver (inr (inr w)) = absurd (gives_none ec new is w)

  -- no trusted domain is being given its first range, but by one that is at work
  pub given_none : (ec new : ℕ) → (context k ec).state ≡ Granting (Some new) → label new ≡ 0 → ⊥
  given_none ec new is none = by_label (place (label (pd_of k ec)) 0)
    where
      x : (y : EcState) × (context_at k ec ≡ Some y) × (y.state ≡ Granting (Some new))
      x = grant_there k ec (Some new) is

      by_role : Role k label (pd_of k ec) → ⊥
      by_role (Bare b) = bare_none ec new is b
      by_role (Rests r others) = resting_grant k (is_other (pd_of k ec)) x.0.cpu (Some new) x.0.state (rest_resting k label tables (pd_of k ec) r ec x.0 x.1 refl) x.2
      by_role (Mute w) = gives_none ec new is w

      by_label : (label (pd_of k ec) ≡ 0) ⊎ (label (pd_of k ec) ≢ 0) → ⊥
      by_label (inl trusted) = by_role (role k label (pd_of k ec) harmless trusted (home ec (context_ec k ec tables (ap (λ (o : Option EcState). is_some o) x.1))))
      by_label (inr some) = some (sym (policy.firsts ec new is some) ∙ none)

  -- WHAT A MUTE DOMAIN HOLDS

  own : (d : Derivation) → M d.pd → (n : ℕ) → (n == d.pd) ≡ true → M n
  own d w n is = subst M (sym (eqb-true n d.pd is)) w

  -- its own, or a side's
  mute_owned : (d : Derivation) → Contains k.delegations.list d → M d.pd → d.kind ≡ Obj → IsOwned k S d.target (slice_get k.objects d.target)
  mute_owned d there w kind = by_object (slice_get k.objects d.target) refl (mute_own k label tables d.pd w.mute d there kind refl)
    where
      living : (n : ℕ) → target_domain k d ≡ Some n → (is_none_or d.pd (Some n) ≡ true) ⊎ (is_controlled k label d ≡ true) → S n
      living n to (inl is) = inr (inr (own d w n is))
      living n to (inr is) =
          let sided : is_side label (Some n) ≡ true =
          subst (λ (o : Option ℕ). is_side label o ≡ true) to (and_parts (is_side label (target_domain k d)) (controls_alone d.rights (slice_get k.objects d.target)) is).0 in
          inl (λ none. not_zero (label n) sided none)
        where
          not_zero : (l : ℕ) → not (l == 0) ≡ true → l ≡ 0 → ⊥
          not_zero l some none =
              let off : not (l == 0) ≡ false = ap not (eq-eqb l 0 none) in let both : true ≡ false = sym some ∙ off in cc

      its : (n : ℕ) → target_domain k d ≡ Some n → (is_none_or d.pd (target_domain k d) ≡ true) ⊎ (is_controlled k label d ≡ true) → S n
      its n leads (inl is) = living n leads (inl (subst (λ (o : Option ℕ). is_none_or d.pd o ≡ true) leads is))
      its n leads (inr is) = living n leads (inr is)

      by_object : (o : Option Object) → slice_get k.objects d.target ≡ o → (is_none_or d.pd (target_domain k d) ≡ true) ⊎ (is_controlled k label d ≡ true) → IsOwned k S d.target o
      by_object (Some Pd) at is = its d.target (ap (domain_of k d.target) at) is
      by_object (Some (Ec pd cpu kind_ event)) at is = its pd (ap (domain_of k d.target) at) is
      by_object (Some (Sc donor cpu priority quantum)) at is =
          as_member k S donor (donor_ec k donor cpu (at_index (Refers k.objects) k.objects d.target (Sc donor cpu priority quantum) tables.refer at)) (its (pd_of k donor) (ap (domain_of k d.target) at) is)
      by_object (Some (Pt handler mtd ip)) at is =
          as_member k S handler (local_ec k handler (at_index (Refers k.objects) k.objects d.target (Pt handler mtd ip) tables.refer at)) (its (pd_of k handler) (ap (domain_of k d.target) at) is)
      by_object (Some Sm) at is = tt
      by_object None at is = tt

  -- what it doesn't own it controls at most
  mute_holds : (d : Derivation) → Contains k.delegations.list d → d.kind ≡ Obj → M d.pd → (n : ℕ) → target_domain k d ≡ Some n → M n ⊎ (controls_alone d.rights (slice_get k.objects d.target) ≡ true)
  mute_holds d there kind w n to = by_test (mute_own k label tables d.pd w.mute d there kind refl)
    where
      by_test : (is_none_or d.pd (target_domain k d) ≡ true) ⊎ (is_controlled k label d ≡ true) → M n ⊎ (controls_alone d.rights (slice_get k.objects d.target) ≡ true)
      by_test (inl is) = inl (own d w n (subst (λ (o : Option ℕ). is_none_or d.pd o ≡ true) to is))
      by_test (inr is) = inr (and_parts (is_side label (target_domain k d)) (controls_alone d.rights (slice_get k.objects d.target)) is).1

  pub mute_first : AreMute k label S M
  mute_first = record {
    trusted = λ n w. w.trusted;
    there = λ n w. w.there;
    within = λ n w. inr (inr w);
    holds = mute_holds;
    unreached = λ d there kind some n to w. mute_unreached k label tables n w.mute d there kind some to;
    enters = enters;
    leaves = λ waiter handler is w. subst M (sym (mute_waits waiter handler is w)) w;
    firsts = λ ec new is w. absurd (gives_none ec new is w);
    given = λ ec new is w. absurd (given_none ec new is w.trusted);
  }

  -- ALL THAT MAY ACT

  pub parted : AreSeparate k S Nowhere
  parted = record {
    first = record {
      there = λ n s. there_in n s;
      capabilities = λ d there s kind. held_in d there kind s;
      edges = edges_in;
      firsts = firsts_in;
    };
    second = nowhere_closed k;
    disjoint = λ n s none. none;
    rest = λ ec x at. by_label ec x at (context_ec k ec tables (ap (λ (o : Option EcState). is_some o) at)) (place (label (pd_of k ec)) 0);
  }
    where
      there_in : (n : ℕ) → S n → slice_get k.objects n ≡ Some Pd
      there_in n (inl some) = harmless.domains n some
      there_in n (inr (inl b)) = b.there
      there_in n (inr (inr w)) = w.there

      held_in : (d : Derivation) → Contains k.delegations.list d → d.kind ≡ Obj → S d.pd → IsOwned k S d.target (slice_get k.objects d.target)
      held_in d there kind (inl some) = owned d there kind some (slice_get k.objects d.target) refl (policy.capabilities d there kind some).leads
      held_in d there kind (inr (inl b)) = absurd (bare_holds k label tables d.pd b.bare d there kind refl)
      held_in d there kind (inr (inr w)) = mute_owned d there w kind

      -- none of these raises where a domain at rest waits
      raised_in : (n : ℕ) → label n ≡ 0 → is_mute k label n ≡ false → RaisesByActing k (is_other n) S
      raised_in n trusted others sm h = by_holder h.of
        where
          by_holder : S h.capability.pd → is_other n h.capability.pd ≡ true
          by_holder (inl some) = ap not (ne_eqb h.capability.pd n (λ same. some (ap label same ∙ trusted)))
          by_holder (inr (inl b)) = absurd (bare_holds k label tables h.capability.pd b.bare h.capability h.there h.kind refl)
          by_holder (inr (inr w)) = ap not (ne_eqb h.capability.pd n (λ same. let both : true ≡ false = sym w.mute ∙ ap (is_mute k label) same ∙ others in cc))

      by_role : (ec : ℕ) (x : EcState) → context_at k ec ≡ Some x → IsEc k ec → label (pd_of k ec) ≡ 0 → Role k label (pd_of k ec) → IsIdle k S Nowhere ec x.state ⊎ (IsMember k S ec ⊎ IsMember k Nowhere ec)
      by_role ec x at m trusted (Bare b) = inr (inl (as_member k S ec m (inr (inl b))))
      by_role ec x at m trusted (Rests r others) =
          let n = pd_of k ec in
          inl (idle_from k (is_other n) fits ec x at S Nowhere (raised_in n trusted others) (λ sm h. absurd h.of) (rest_resting k label tables n r ec x at refl))
      by_role ec x at m trusted (Mute w) = inr (inl (as_member k S ec m (inr (inr w))))

      by_label : (ec : ℕ) (x : EcState) → context_at k ec ≡ Some x → IsEc k ec → (label (pd_of k ec) ≡ 0) ⊎ (label (pd_of k ec) ≢ 0) → IsIdle k S Nowhere ec x.state ⊎ (IsMember k S ec ⊎ IsMember k Nowhere ec)
      by_label ec x at m (inl trusted) = by_role ec x at m trusted (role k label (pd_of k ec) harmless trusted (home ec m))
      by_label ec x at m (inr some) = inr (inl (as_member k S ec m (inl some)))
