-- Whence a context waits for a handler, or gives a first range: from the turn in which it began.
use Rattle.nova_model.specs.declared.context.EcState.{EcState}
use Rattle.law_turns.proofs.Setting.{more_at}
use Rattle.law_forest.proofs.Boots.{sources_keep}
use Rattle.std.proofs.Common.{◌≡◌, ℕ, zero, suc, ◌+◌, ◌^◌, ◌<◌, ◌⊎◌, List, [], ◌∷◌, ◌++◌, length, ap, sym, ◌∙◌, subst, refl, inl, inr, arith}
use Rattle.std.specs.Prelude.{true, false, IfSome, slice_get, Option, Some, None, option_map}
use Rattle.std.proofs.lemmas.Option.{same_Some}
use Rattle.rv_model.specs.Words.{plus}
use Rattle.law_forest.specs.Effects.{joined, made_by}
use Rattle.law_forest.proofs.Allowed.{OpensNext, deed_opens}
use Rattle.law_forest.proofs.Walk.{IfDone}
use Rattle.nova_guest.specs.Admitted.{admits, has_exit}
use Rattle.nova_guest.specs.declared.guest.GuestState.{GuestState}
use Rattle.nova_guest.specs.declared.guest.GuestState.TheVariants as guest
use Rattle.nova_guest.specs.declared.input.Input.{Input}
use Rattle.nova_guest.specs.declared.input.Input.TheVariants.{Sent}
use Rattle.law_isolation.specs.Sound.{IsSound, IsVirtual}
use Rattle.law_isolation.proofs.Admits.{input_met, view_state}
use Rattle.law_isolation.proofs.Outputs.{IsOwn}
use Rattle.law_isolation.proofs.OwnTurns.{own_deed, own_is}
use Rattle.law_isolation.proofs.Premises.{guest as guest_there}
use Rattle.law_isolation.proofs.Runs.{reached_sound}
use Rattle.law_turns.specs.Asked.{HoldsAt}
use Rattle.law_turns.proofs.Holding.{IsNamedAt, named_at}
use Rattle.nova_model.specs.Boot.{Image, Scenario, bare, boot, with_image, with_images}
use Rattle.nova_model.specs.Capabilities.{event_right, is_pt}
use Rattle.nova_model.specs.Creation.{object_of}
use Rattle.nova_model.specs.Deeds.{deed}
use Rattle.nova_model.specs.Exits.{raised_exit}
use Rattle.nova_model.specs.Guests.{input}
use Rattle.nova_model.specs.Inputs.{own_input}
use Rattle.nova_model.specs.Portals.{handler_in}
use Rattle.nova_model.specs.Runs.{after, run}
use Rattle.nova_model.specs.State.{Contexts, KernelState, context, ec_of, event_base, pd_of, context_in}
use Rattle.nova_model.specs.Views.{guest_state, view}
use Rattle.nova_model.specs.declared.context.State.{State}
use Rattle.nova_model.specs.declared.context.State.TheVariants.{Calling, Granting, Exiting, Sending}
use Rattle.nova_model.specs.declared.deed.Deed.{Deed}
use Rattle.nova_model.specs.declared.deed.Deed.TheVariants as deeds
use Rattle.nova_objects.specs.declared.object.Object.{Object}
use Rattle.nova_objects.specs.declared.object.Object.TheVariants.{Pd, Ec, Sc, Pt, Sm}
use Rattle.law_origins.specs.Events.{AreSelectors}
use Rattle.law_origins.specs.Giving.{Acts, HasMade}
use Rattle.law_origins.specs.Sending.{HandlesLast, IsHandler, LastSent}
use Rattle.law_origins.proofs.Actors.{input_is, is_done, last_object, special_object, actor_object, was_virtual}
use Rattle.law_origins.proofs.Bases.{reached_selectors}
use Rattle.law_origins.proofs.Coming.{Begins, IsSpecial, came}
use Rattle.law_origins.proofs.Lists.{by_turns, one_more, run_append, sent_in, sent_more}
use Rattle.law_origins.proofs.Warrants.{IsSentBy, Warrant, deed_warrant}

-- WHERE AN EXIT IS SENT

raised_guest : (s : State) (reason q0 q1 : ℕ) → raised_exit s ≡ Some (reason, q0, q1) → guest_state s ≡ guest.Exit reason q0 q1
raised_guest (Exiting r a b) reason q0 q1 is = ap (λ (p : ℕ × ℕ × ℕ). guest.Exit p.0 p.1 p.2) (same_Some (r, a, b) (reason, q0, q1) is)
raised_guest (Sending r a b handler) reason q0 q1 is = ap (λ (p : ℕ × ℕ × ℕ). guest.Exit p.0 p.1 p.2) (same_Some (r, a, b) (reason, q0, q1) is)
raised_guest other reason q0 q1 is = absurd (cc)

portal_is : (o : Option Object) → option_map is_pt o ≡ Some true → (mtd ip : ℕ) × (o ≡ Some (Pt (handler_in o) mtd ip))
portal_is (Some (Pt handler mtd ip)) h = (mtd, ip, refl)
portal_is (Some Pd) h = absurd (cc)
portal_is (Some (Ec pd cpu kind event)) h = absurd (cc)
portal_is (Some (Sc ec cpu priority quantum)) h = absurd (cc)
portal_is (Some Sm) h = absurd (cc)
portal_is None h = absurd (cc)

handles : (k : KernelState) (g handler reason q0 q1 : ℕ) → AreSelectors k → IsSentBy k g handler reason q0 q1 → IsHandler k g handler
handles k g handler reason q0 q1 selectors by =
    let below : event_base k g + reason < 2 ^ 20 = selectors g reason q0 q1 by.raised in
    let same : plus (event_base k g) reason ≡ event_base k g + reason = omega (arith, below) in
    let its : IsNamedAt k (pd_of k g) (plus (event_base k g) reason) event_right is_pt by.portal =
    subst (IfDone (IsNamedAt k (pd_of k g) (plus (event_base k g) reason) event_right is_pt)) by.names (named_at k (pd_of k g) is_pt event_right (plus (event_base k g) reason)) in
    let object = portal_is (slice_get k.objects by.portal) its.object in
    record {
      reason = reason;
      q0 = q0;
      q1 = q1;
      exit = view_state k g ∙ raised_guest (context k g).state reason q0 q1 by.raised;
      portal = by.portal;
      held = subst (λ (n : ℕ). HoldsAt k (pd_of k g) n event_right by.portal) same (its.holds (omega (arith, below, same)));
      mtd = object.0;
      ip = object.1;
      leads = subst (λ (h : ℕ). slice_get k.objects by.portal ≡ Some (Pt h object.0 object.1)) (sym by.leads) object.2;
    }

-- a virtual CPU comes to wait by a Sent alone
sent_by : (k : KernelState) (g h : ℕ) (d : Deed) → AreSelectors k → IsOwn d → Warrant k g d → Begins d (Calling h) → (own_input d ≡ Some Sent) × IsHandler k g h
sent_by k g h (deeds.Sends handler ip identifier mtd reason q0 q1) selectors own by starts =
    let same : handler ≡ h = cc in (refl, subst (IsHandler k g) same (handles k g handler reason q0 q1 selectors by))
sent_by k g h (deeds.Raises reason q0 q1) selectors own by starts = absurd (cc)
sent_by k g h (deeds.Waits handler reason q0 q1) selectors own by starts = absurd (cc)
sent_by k g h (deeds.Calls handler ip identifier items) selectors own by starts = absurd own
sent_by k g h (deeds.Opens target domain) selectors own by starts = absurd own
sent_by k g h other selectors own by starts = absurd starts

sent_now : (k : KernelState) (cpu g h : ℕ) → IsSound k → AreSelectors k → IsVirtual k g → Acts k cpu g → Begins (deed k g) (Calling h) →
    (input k cpu g ≡ Some Sent) × IsHandler k g h
sent_now k cpu g h sound selectors virtual acts starts =
    let by = sent_by k g h (deed k g) selectors (own_deed k g (guest_there k g sound virtual)) (deed_warrant k g) starts in
    (input_is k cpu g g acts ∙ (own_is k g (deed k g) ∙ by.0), by.1)

-- a virtual CPU that waits has no Sent
unsent : (k : KernelState) (cpu g h : ℕ) → IsSound k → IsVirtual k g → (context k g).state ≡ Calling h → sent_in (input k cpu g) ≡ false
unsent k cpu g h sound virtual waits = by_input (input k cpu g) (input_met k cpu g sound virtual) (view_state k g ∙ ap guest_state waits)
  where
    by_input : (i : Option Input) → IfSome i (λ i. admits (view k g) i ≡ true) → (view k g).state ≡ guest.Waiting → sent_in i ≡ false
    by_input (Some Sent) met at = absurd (let no : false ≡ true = ap (λ (s : GuestState). has_exit s) (sym at) ∙ met in cc)
    by_input (Some other) met at = refl
    by_input None met at = refl

-- WHERE A PROTECTION DOMAIN IS MADE

opened_by : (k : KernelState) (pd : ℕ) (d : Deed) → OpensNext k d → Begins d (Granting (Some pd)) → (length k.objects ≡ pd) × (option_map object_of (made_by d) ≡ Some Pd)
opened_by k pd (deeds.Opens target domain) next starts = let same : domain ≡ pd = cc in (sym next ∙ same, refl)
opened_by k pd (deeds.Raises reason q0 q1) next starts = absurd (cc)
opened_by k pd (deeds.Waits handler reason q0 q1) next starts = absurd (cc)
opened_by k pd (deeds.Calls handler ip identifier items) next starts = absurd (cc)
opened_by k pd (deeds.Sends handler ip identifier mtd reason q0 q1) next starts = absurd (cc)
opened_by k pd other next starts = absurd starts

pub opened_now : (k : KernelState) (cpu ec pd : ℕ) → Acts k cpu ec → Begins (deed k ec) (Granting (Some pd)) → (length k.objects ≡ pd) × (slice_get (after k cpu).objects pd ≡ Some Pd)
opened_now k cpu ec pd acts starts =
    let by = opened_by k pd (deed k ec) (deed_opens k ec) starts in
    let objects : (after k cpu).objects ≡ k.objects ++ Pd ∷ [] = (is_done k cpu ec acts).objects ∙ ap (joined k.objects) by.1 in
    (by.0, ap (λ (os : List Object). slice_get os pd) objects ∙ subst (λ (n : ℕ). slice_get (k.objects ++ Pd ∷ []) n ≡ Some Pd) by.0 (last_object k.objects Pd))

-- ALONG A RUN

abbrev pub Origin : KernelState → List ℕ → ℕ → State → Type 0
Origin k turns n (Calling h) = IsVirtual (run k turns) n → HandlesLast k turns n h
Origin k turns n (Granting (Some pd)) = HasMade k turns n pd
Origin k turns n other = Unit {0}

-- at the start none waits or gives
images_contexts : (k : KernelState) (images : List Image) → (with_images k images).contexts ≡ k.contexts
images_contexts k [] = refl
images_contexts k (image ∷ images) = images_contexts (with_image k image) images

root_plain : (s : Scenario) (n : ℕ) → IsSpecial (context (bare s.cpus s.ram s.consoles s.root) n).state → ⊥
root_plain s zero p = p
root_plain s (suc zero) p = p
root_plain s (suc (suc zero)) p = p
root_plain s (suc (suc (suc n))) p = p

pub boot_plain : (s : Scenario) (n : ℕ) (t : State) → IsSpecial t → (context (boot s) n).state ≡ t → ⊥
boot_plain s n t special is =
    sources_keep (λ (k : KernelState). (m : ℕ) → IsSpecial (context k m).state → ⊥)
    (λ k source none m p. more_at (λ (o : Option EcState). IsSpecial (context_in o).state → ⊥) k.contexts None m (none m) (λ old. old) p)
    (with_images (bare s.cpus s.ram s.consoles s.root) s.images) s.sources
    (λ m p. root_plain s m (subst (λ (cs : Contexts). IsSpecial (ec_of cs m).state) (images_contexts (bare s.cpus s.ram s.consoles s.root) s.images) p))
    n (subst IsSpecial (sym is) special)

-- it was so before the last turn
later_sent : (s : Scenario) (turns : List ℕ) (cpu n h : ℕ) → sent_in (input (run (boot s) turns) cpu n) ≡ false → HandlesLast (boot s) turns n h →
    HandlesLast (boot s) (turns ++ cpu ∷ []) n h
later_sent s turns cpu n h none earlier =
    let l : LastSent (boot s) turns n = earlier.sent in
    let at : run (boot s) turns ≡ run (after (run (boot s) l.before) l.cpu) l.later = ap (run (boot s)) l.whole ∙ run_append (boot s) l.before (l.cpu ∷ l.later) in
    record {
      sent = record {
        before = l.before;
        cpu = l.cpu;
        later = l.later ++ cpu ∷ [];
        whole = one_more turns l.before l.later l.cpu cpu l.whole;
        sent = l.sent;
        last = sent_more (after (run (boot s) l.before) l.cpu) l.later cpu n l.last (subst (λ (k : KernelState). sent_in (input k cpu n) ≡ false) at none);
      };
      handles = earlier.handles;
    }

virtual_then : (s : Scenario) (turns : List ℕ) (cpu n : ℕ) → n < length (run (boot s) turns).objects → IsVirtual (run (boot s) (turns ++ cpu ∷ [])) n → IsVirtual (run (boot s) turns) n
virtual_then s turns cpu n there virtual =
    was_virtual (run (boot s) turns) cpu n there (subst (λ (k : KernelState). IsVirtual k n) (run_append (boot s) turns (cpu ∷ [])) virtual)

was_so : (s : Scenario) (turns : List ℕ) (cpu n : ℕ) (t : State) → IsSpecial t → (context (run (boot s) turns) n).state ≡ t → Origin (boot s) turns n t →
    Origin (boot s) (turns ++ cpu ∷ []) n t
was_so s turns cpu n (Calling h) special is earlier = λ virtual.
    let sound : IsSound (run (boot s) turns) = reached_sound s turns in
    let held : IsVirtual (run (boot s) turns) n = virtual_then s turns cpu n (special_object (run (boot s) turns) n (Calling h) sound tt is) virtual in
    later_sent s turns cpu n h (unsent (run (boot s) turns) cpu n h sound held is) (earlier held)
was_so s turns cpu n (Granting (Some pd)) special is m = record {
  before = m.before;
  cpu = m.cpu;
  later = m.later ++ cpu ∷ [];
  whole = one_more turns m.before m.later m.cpu cpu m.whole;
  acts = m.acts;
  number = m.number;
  made = m.made;
}
was_so s turns cpu n other special is earlier = tt

-- or it began in it
is_now : (s : Scenario) (turns : List ℕ) (cpu n : ℕ) (t : State) → Acts (run (boot s) turns) cpu n → Begins (deed (run (boot s) turns) n) t →
    Origin (boot s) (turns ++ cpu ∷ []) n t
is_now s turns cpu n (Calling h) acts starts = λ virtual.
    let sound : IsSound (run (boot s) turns) = reached_sound s turns in
    let held : IsVirtual (run (boot s) turns) n = virtual_then s turns cpu n (actor_object (run (boot s) turns) cpu n sound acts) virtual in
    let now = sent_now (run (boot s) turns) cpu n h sound (reached_selectors s turns) held acts starts in
    record { sent = record { before = turns; cpu = cpu; later = []; whole = refl; sent = now.0; last = refl }; handles = now.1 }
is_now s turns cpu n (Granting (Some pd)) acts starts =
    let now = opened_now (run (boot s) turns) cpu n pd acts starts in
    record { before = turns; cpu = cpu; later = []; whole = refl; acts = acts; number = now.0; made = now.1 }
is_now s turns cpu n other acts starts = tt

pub run_origin : (s : Scenario) (turns : List ℕ) (n : ℕ) (t : State) → IsSpecial t → (context (run (boot s) turns) n).state ≡ t → Origin (boot s) turns n t
run_origin s =
    by_turns (λ (turns : List ℕ). (n : ℕ) (t : State) → IsSpecial t → (context (run (boot s) turns) n).state ≡ t → Origin (boot s) turns n t)
    (λ n t special is. absurd (boot_plain s n t special is))
    (λ turns cpu earlier n t special is. by_case turns cpu earlier n t special
    (came (run (boot s) turns) cpu n t special (ap (λ (k : KernelState). (context k n).state) (sym (run_append (boot s) turns (cpu ∷ []))) ∙ is)))
  where
    by_case : (turns : List ℕ) (cpu : ℕ) → ((n : ℕ) (t : State) → IsSpecial t → (context (run (boot s) turns) n).state ≡ t → Origin (boot s) turns n t) → (n : ℕ) (t : State) → IsSpecial t →
        (((context (run (boot s) turns) n).state ≡ t) ⊎ (Acts (run (boot s) turns) cpu n × Begins (deed (run (boot s) turns) n) t)) → Origin (boot s) (turns ++ cpu ∷ []) n t
    by_case turns cpu earlier n t special (inl before) = was_so s turns cpu n t special before (earlier n t special before)
    by_case turns cpu earlier n t special (inr now) = is_now s turns cpu n t now.0 now.1

pub makers : (s : Scenario) (turns : List ℕ) (ec pd : ℕ) → (context (run (boot s) turns) ec).state ≡ Granting (Some pd) → HasMade (boot s) turns ec pd
makers s turns ec pd is = run_origin s turns ec (Granting (Some pd)) tt is
