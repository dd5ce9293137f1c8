-- Two closed sets after a turn: the context that acts is of one of them, and each context of neither stays idle.
use Rattle.std.proofs.Common.{◌≡◌, ℕ, ◌≤◌, ◌⊎◌, List, [], ◌∷◌, ◌++◌, length, refl, sym, ap, ◌∙◌, subst, inl, inr, arith}
use Rattle.std.specs.Prelude.{true, false, is_some, slice_get, Option, Some, None, option_map}
use Rattle.std.proofs.lemmas.Option.{same_Some, slice_get_within}
use Rattle.nova_calls.specs.declared.numbers.TheConstants.{SM_CTRL}
use Rattle.nova_objects.specs.declared.object.Object.{Object}
use Rattle.nova_objects.specs.declared.object.Object.TheVariants.{Pd, Ec, Sc, Pt, Sm}
use Rattle.nova_range.specs.declared.range.Kind.TheVariants.{Obj}
use Rattle.nova_model.specs.Boot.{Scenario, boot}
use Rattle.nova_model.specs.Capabilities.{is_ec, up_right}
use Rattle.nova_model.specs.Edges.{is_free}
use Rattle.nova_model.specs.Semaphores.{has}
use Rattle.nova_model.specs.Times.{rung_once}
use Rattle.nova_model.specs.declared.times.AlarmState.{AlarmState}
use Rattle.nova_model.specs.declared.times.Due.{Due}
use Rattle.nova_model.specs.Runs.{after, run}
use Rattle.nova_model.specs.State.{KernelState, context, context_at, deadline_of, message}
use Rattle.nova_model.specs.declared.context.EcState.{EcState}
use Rattle.nova_model.specs.declared.context.State.{State}
use Rattle.nova_model.specs.declared.context.State.TheVariants.{Blocked, Calling, Dead, Parked}
use Rattle.nova_model.specs.declared.delegation.Derivation.{Derivation}
use Rattle.nova_model.specs.Choice.{Candidate}
use Rattle.law_forest.specs.Turns.{Idles as Stays, Takes as Turns, Acts as Chosen, Passes as Comes, turned}
use Rattle.law_forest.proofs.Turning.{comes}
use Rattle.law_forest.specs.Made.{GivesChild, Grows, IsFirstCapability, Leaves, MakesObject, TakesLeaf}
use Rattle.law_isolation.specs.Sound.{IsSound}
use Rattle.law_isolation.proofs.Runs.{reached_sound}
use Rattle.law_turns.specs.Tables.{HasTables, IsOf}
use Rattle.law_turns.proofs.Serving.{IsActor, is_blocked}
use Rattle.law_turns.proofs.TablesFit.{boot_run_fits}
use Rattle.law_turns.proofs.TablesKept.{context_is}
use Rattle.law_origins.specs.Giving.{Acts}
use Rattle.law_origins.proofs.Lists.{run_append}
use Rattle.law_integrity.specs.Confined.{AreSeparate, Holds, IsClosed, IsIdle, IsStuck, IsMember, more}
use Rattle.law_integrity.specs.Integrity.{AlarmByTime, ClearedAwake, ClearedLate, Clears, ContextByTime, DeadlineBy, DeadlineByTime, IsByTime, Rings, RungAwake, Sets, TimedOut, Called, ContextBy, ExitSent, IsByRight, Itself, NewContext, Recalled, Resumed, Woken}
use Rattle.law_integrity.specs.Rights.{AsksUp, CallsAt, ExitsAt, Names}
use Rattle.law_integrity.proofs.Authorised.{authorised_by}
use Rattle.law_integrity.proofs.Branches.{chosen_grows}
use Rattle.law_integrity.proofs.Confining.{Child, IsAfter, IsAway, Newest, Old, Side, Whence, acting_one, calls_in, child_target, exits_in, gives_in, member_later, member_pd, newest_object, newest_owned, object_kept, order_none, side_in, side_out, was_in, whence}
use Rattle.law_integrity.proofs.Edges.{local_edges, reached_rightful}
use Rattle.law_integrity.proofs.Passing.{due_in, turned_by_time}
use Rattle.law_integrity.proofs.Homes.{AreHomed, reached_homed, receiver_there}

-- WHICH CONTEXT ACTS

idle_acts : {A : Type 0} (k : KernelState) (S T : ℕ → Type 0) (n : ℕ) (s : State) → is_free (Some s) ≡ false → is_blocked (Some s) ≡ false → IsIdle k S T n s → A
idle_acts k S T n Parked awake free idle = absurd (cc)
idle_acts k S T n Dead awake free idle = absurd (cc)
idle_acts k S T n (Blocked sm) awake free idle = absurd (cc)
idle_acts k S T n other awake free idle = absurd idle

pub acts_in : (k : KernelState) (S T : ℕ → Type 0) (cpu ec : ℕ) → AreSeparate k S T → Acts k cpu ec → IsMember k S ec ⊎ IsMember k T ec
acts_in k S T cpu ec apart acts_ = by_rest (apart.rest ec (context k ec) actor.there)
  where
    actor : IsActor k.contexts ec
    actor = acting_one k cpu ec acts_

    by_rest : IsIdle k S T ec (context k ec).state ⊎ (IsMember k S ec ⊎ IsMember k T ec) → IsMember k S ec ⊎ IsMember k T ec
    by_rest (inl idle) = idle_acts k S T ec (context k ec).state actor.awake (ap (λ (o : Option EcState). is_blocked (option_map (λ x. x.state) o)) (sym actor.there) ∙ actor.unblocked) idle
    by_rest (inr m) = m

first_side : (k : KernelState) (S T : ℕ → Type 0) (cpu ec : ℕ) → IsSound k → AreSeparate k S T → Acts k cpu ec → Side k S ec
first_side k S T cpu ec sound apart acts_ = elim (acts_in k S T cpu ec apart acts_) [
  | inl m ↦ side_in k S ec sound apart.first (acting_one k cpu ec acts_) m
  | inr m ↦ side_out k S T ec sound apart.second apart.disjoint (acting_one k cpu ec acts_) m
]

second_side : (k : KernelState) (S T : ℕ → Type 0) (cpu ec : ℕ) → IsSound k → AreSeparate k S T → Acts k cpu ec → Side k T ec
second_side k S T cpu ec sound apart acts_ = elim (acts_in k S T cpu ec apart acts_) [
  | inl m ↦ side_out k T S ec sound apart.first (λ n t s. apart.disjoint n s t) (acting_one k cpu ec acts_) m
  | inr m ↦ side_in k T ec sound apart.second (acting_one k cpu ec acts_) m
]

pub first_after : (s : Scenario) (before : List ℕ) (S T : ℕ → Type 0) (cpu : ℕ) → AreSeparate (run (boot s) before) S T → IsAfter (run (boot s) before) S cpu
first_after s before S T cpu apart = record {
  sound = reached_sound s before;
  closed = apart.first;
  sides = λ ec acts_. first_side (run (boot s) before) S T cpu ec (reached_sound s before) apart acts_;
  rightful = λ ec. reached_rightful s before ec;
  local = local_edges s before;
  holders = (reached_homed s before).holders;
  targets = (reached_homed s before).targets;
}

pub second_after : (s : Scenario) (before : List ℕ) (S T : ℕ → Type 0) (cpu : ℕ) → AreSeparate (run (boot s) before) S T → IsAfter (run (boot s) before) T cpu
second_after s before S T cpu apart = record {
  sound = reached_sound s before;
  closed = apart.second;
  sides = λ ec acts_. second_side (run (boot s) before) S T cpu ec (reached_sound s before) apart acts_;
  rightful = λ ec. reached_rightful s before ec;
  local = local_edges s before;
  holders = (reached_homed s before).holders;
  targets = (reached_homed s before).targets;
}

-- WHAT A SET HOLDS, IT HELD

-- or it made the object now
pub record IsMadeNow (k : KernelState) (S : ℕ → Type 0) (cpu object : ℕ) : Type 0 where
  pub maker : ℕ
  pub acts : Acts k cpu maker
  pub of : IsMember k S maker
  pub number : object ≡ length k.objects

pub holds_made : (k : KernelState) (S : ℕ → Type 0) (cpu right object : ℕ) → IsAfter k S cpu → AreHomed k → Holds (after k cpu) (more k S cpu) right object →
    Holds k S right object ⊎ IsMadeNow k S cpu object
holds_made k S cpu right object a homed r = by_whence (whence k cpu r.capability a.sound.forest r.there)
  where
    by_whence : Whence k cpu r.capability → Holds k S right object ⊎ IsMadeNow k S cpu object
    by_whence (Old there) = inl (record {
      capability = r.capability;
      there = there;
      of = was_in k S cpu r.capability.pd (homed.holders r.capability there) r.of;
      kind = r.kind;
      leads = r.leads;
      allowed = r.allowed;
    })
    by_whence (Newest ec acts_ o first objects) = by_maker (a.sides ec acts_).0
      where
        holder : slice_get k.objects r.capability.pd ≡ Some Pd
        holder = subst (λ (n : ℕ). slice_get k.objects n ≡ Some Pd) first.creator.held (homed.holders first.creator.capability first.creator.there)

        by_maker : IsMember k S ec ⊎ IsAway k S ec → Holds k S right object ⊎ IsMadeNow k S cpu object
        by_maker (inl m) = inr (record { maker = ec; acts = acts_; of = m; number = sym r.leads ∙ first.target })
        by_maker (inr away) = absurd (away.out (subst S first.pd (was_in k S cpu r.capability.pd holder r.of)))
    by_whence (Child ec acts_ source there within gives) = by_side (a.sides ec acts_).0
      where
        of : S r.capability.pd
        of = was_in k S cpu r.capability.pd (receiver_there k ec source.pd r.capability.pd a.sound homed (acting_one k cpu ec acts_) gives) r.of

        its : source.kind ≡ Obj
        its = sym within.kind ∙ r.kind

        by_side : IsMember k S ec ⊎ IsAway k S ec → Holds k S right object ⊎ IsMadeNow k S cpu object
        by_side (inl m) = inl (record {
          capability = source;
          there = there;
          of = (gives_in k S ec source.pd r.capability.pd a.sound a.closed (acting_one k cpu ec acts_) m gives).0;
          kind = its;
          leads = sym (child_target r.capability source its (order_none k source a.sound.forest there its) within) ∙ r.leads;
          allowed = within.rights right r.allowed;
        })
        by_side (inr away) = absurd (away.gives source.pd r.capability.pd gives of)

pub holds_before : (k : KernelState) (S : ℕ → Type 0) (cpu right object : ℕ) → IsAfter k S cpu → AreHomed k → Holds (after k cpu) (more k S cpu) right object →
    Holds k S right object ⊎ (length k.objects ≤ object)
holds_before k S cpu right object a homed h = elim (holds_made k S cpu right object a homed h) [
  | inl before ↦ inl before
  | inr made ↦ inr (let number = made.number in omega (arith, number))
]

-- THE REST STAYS AT REST

abbrev Either : KernelState → (ℕ → Type 0) → (ℕ → Type 0) → ℕ → Type 0
Either k S T n = IsMember k S n ⊎ IsMember k T n

either_later : (k : KernelState) (S T : ℕ → Type 0) (cpu n : ℕ) → Either k S T n → Either (after k cpu) (more k S cpu) (more k T cpu) n
either_later k S T cpu n (inl m) = inl (member_later k cpu S n m)
either_later k S T cpu n (inr m) = inr (member_later k cpu T n m)

sent_to : (k : KernelState) (S T : ℕ → Type 0) (ec n : ℕ) → AreSeparate k S T → Either k S T ec → CallsAt k ec n ⊎ ExitsAt k ec n → Either k S T n
sent_to k S T ec n apart (inl m) (inl c) = inl (calls_in k S ec n apart.first m c)
sent_to k S T ec n apart (inl m) (inr c) = inl (exits_in k S ec n apart.first m c)
sent_to k S T ec n apart (inr m) (inl c) = inr (calls_in k T ec n apart.second m c)
sent_to k S T ec n apart (inr m) (inr c) = inr (exits_in k T ec n apart.second m c)

-- a new execution context is of the set of its maker
born_in : (k : KernelState) (S : ℕ → Type 0) (cpu ec : ℕ) → IsClosed k S → Acts k cpu ec → IsMember k S ec → HasTables (after k cpu) → Grows k ec (after k cpu) →
    is_some (context_at (after k cpu) (length k.objects)) ≡ true → IsMember (after k cpu) (more k S cpu) (length k.objects)
born_in k S cpu ec closed acts_ m tables grows there = by_growth grows
  where
    is : IsOf (after k cpu).objects is_ec (length k.objects)
    is = context_is (after k cpu) (length k.objects) there tables

    beyond : (os : List Object) → option_map is_ec (slice_get os (length os)) ≡ Some true → ⊥
    beyond [] h = absurd (cc)
    beyond (x ∷ os) h = beyond os h

    by_object : (d : Derivation) (o : Object) → IsFirstCapability k ec o d → slice_get (after k cpu).objects (length k.objects) ≡ Some o → is_ec o ≡ true →
        IsMember (after k cpu) (more k S cpu) (length k.objects)
    by_object d Pd first at h = absurd (cc)
    by_object d (Ec pd its kind event) first at h =
        record { domain = pd; cpu = its; kind = kind; event = event; object = at; of = newest_owned k S cpu ec d (Ec pd its kind event) closed acts_ m first at }
    by_object d (Sc e its priority quantum) first at h = absurd (cc)
    by_object d (Pt e mtd ip) first at h = absurd (cc)
    by_object d Sm first at h = absurd (cc)

    same_there : (after k cpu).objects ≡ k.objects → IsMember (after k cpu) (more k S cpu) (length k.objects)
    same_there same = absurd (beyond k.objects (ap (λ (os : List Object). option_map is_ec (slice_get os (length k.objects))) (sym same) ∙ is))

    by_growth : Grows k ec (after k cpu) → IsMember (after k cpu) (more k S cpu) (length k.objects)
    by_growth (Leaves h) = same_there h.objects
    by_growth (GivesChild h) = same_there h.objects
    by_growth (TakesLeaf h) = same_there h.objects
    by_growth (MakesObject h) =
        let at = newest_object k cpu h.object h.objects in
        by_object h.capability h.object h.first at (same_Some _ true (sym (ap (option_map is_ec) at) ∙ is))

abbrev Rest : KernelState → (ℕ → Type 0) → (ℕ → Type 0) → ℕ → State → Type 0
Rest k S T n s = IsIdle k S T n s ⊎ Either k S T n

pub holds_of : (k : KernelState) (T : ℕ → Type 0) (ec call sm right : ℕ) → IsMember k T ec → Names k ec call right sm → Holds k T right sm
holds_of k T ec call sm right mine names = record {
  capability = names.at.capability;
  there = names.at.held.there;
  of = subst T (sym names.at.held.holder) (member_pd k T ec mine);
  kind = names.at.held.kind;
  leads = names.at.leads;
  allowed = names.at.allowed;
}

unheld : (k : KernelState) (S : ℕ → Type 0) (cpu sm : ℕ) → IsAfter k S cpu → AreHomed k → slice_get k.objects sm ≡ Some Sm → (Holds k S up_right sm → ⊥) →
    Holds (after k cpu) (more k S cpu) up_right sm → ⊥
unheld k S cpu sm a homed there none h = elim (holds_before k S cpu up_right sm a homed h) [
  | inl before ↦ none before
  | inr later ↦ absurd (let below = slice_get_within k.objects sm Sm there in omega (arith, below, later))
]

-- a context that is blocked without a deadline has none after the turn, and no alarm moves to another semaphore
record AreQuiet (k : KernelState) (cpu n : ℕ) : Type 0 where
  still : is_blocked (option_map (λ x. x.state) (context_at k n)) ≡ true → deadline_of k.times n ≡ None → deadline_of (after k cpu).times n ≡ None
  alarms : (alarm : ℕ) (a : AlarmState) → slice_get (after k cpu).times.alarms alarm ≡ Some a → (b : AlarmState) × (slice_get k.times.alarms alarm ≡ Some b) × (b.alarm.sm ≡ a.alarm.sm)

idle_later : (k : KernelState) (S T : ℕ → Type 0) (cpu n : ℕ) (s : State) → IsAfter k S cpu → IsAfter k T cpu → AreHomed k → AreQuiet k cpu n → option_map (λ x. x.state) (context_at k n) ≡ Some s →
    IsIdle k S T n s → IsIdle (after k cpu) (more k S cpu) (more k T cpu) n s
idle_later k S T cpu n Parked a b homed quiet at idle = tt
idle_later k S T cpu n Dead a b homed quiet at idle = tt
idle_later k S T cpu n (Blocked sm) a b homed quiet at idle = record {
  there = object_kept k cpu sm Sm idle.there;
  first = unheld k S cpu sm a homed idle.there idle.first;
  second = unheld k T cpu sm b homed idle.there idle.second;
  alarms = λ alarm x rings same. let was = quiet.alarms alarm x rings in idle.alarms alarm was.0 was.1 (was.2 ∙ same);
  deadline = quiet.still (ap is_blocked at) idle.deadline;
}
idle_later k S T cpu n other a b homed quiet at idle = absurd idle

rest_later : (k : KernelState) (S T : ℕ → Type 0) (cpu n : ℕ) (s : State) → IsAfter k S cpu → IsAfter k T cpu → AreHomed k → AreQuiet k cpu n → option_map (λ x. x.state) (context_at k n) ≡ Some s →
    Rest k S T n s → Rest (after k cpu) (more k S cpu) (more k T cpu) n s
rest_later k S T cpu n s a b homed quiet at (inl idle) = inl (idle_later k S T cpu n s a b homed quiet at idle)
rest_later k S T cpu n s a b homed quiet at (inr m) = inr (either_later k S T cpu n m)

-- so it is in a turn of a context that acts, in a turn that comes by itself, and where nothing happens
acting_quiet : (k : KernelState) (cpu ec sc n : ℕ) → IsActor k.contexts ec → IsByRight k (after k cpu) cpu ec sc → AreQuiet k cpu n
acting_quiet k cpu ec sc n actor right = record {
  still = λ blocked none. by_deadline blocked none (right.deadlines n);
  alarms = λ alarm a at. (a, ap (λ (alarms : List AlarmState). slice_get alarms alarm) (sym right.alarms) ∙ at, refl);
}
  where
    by_deadline : is_blocked (option_map (λ x. x.state) (context_at k n)) ≡ true → deadline_of k.times n ≡ None →
        (deadline_of (after k cpu).times n ≡ deadline_of k.times n) ⊎ DeadlineBy k ec n (deadline_of (after k cpu).times n) → deadline_of (after k cpu).times n ≡ None
    by_deadline blocked none (inl same) = same ∙ none
    by_deadline blocked none (inr (Sets same d may own new)) =
        absurd (let both : true ≡ false = sym blocked ∙ ap (λ (m : ℕ). is_blocked (option_map (λ x. x.state) (context_at k m))) same ∙ actor.unblocked in cc)
    by_deadline blocked none (inr (Clears sm may rest first new)) = new

timed_quiet : (k : KernelState) (cpu n : ℕ) (what : Option Due) → IsByTime k (after k cpu) cpu what → AreQuiet k cpu n
timed_quiet k cpu n what right = record { still = λ blocked none. by_deadline none (right.deadlines n); alarms = λ alarm a at. by_alarm alarm a at (right.alarms alarm) }
  where
    by_deadline : deadline_of k.times n ≡ None → (deadline_of (after k cpu).times n ≡ deadline_of k.times n) ⊎ DeadlineByTime k what n (deadline_of (after k cpu).times n) →
        deadline_of (after k cpu).times n ≡ None
    by_deadline none (inl same) = same ∙ none
    by_deadline none (inr (ClearedAwake alarm a is there rest first new)) = new
    by_deadline none (inr (ClearedLate is new)) = new

    by_alarm : (alarm : ℕ) (a : AlarmState) → slice_get (after k cpu).times.alarms alarm ≡ Some a →
        (slice_get (after k cpu).times.alarms alarm ≡ slice_get k.times.alarms alarm) ⊎ AlarmByTime what alarm (slice_get k.times.alarms alarm) (slice_get (after k cpu).times.alarms alarm) →
        (b : AlarmState) × (slice_get k.times.alarms alarm ≡ Some b) × (b.alarm.sm ≡ a.alarm.sm)
    by_alarm alarm a at (inl same) = (a, sym same ∙ at, refl)
    by_alarm alarm a at (inr (Rings is b old new)) = (b, old, ap (λ (x : AlarmState). x.alarm.sm) (same_Some (rung_once b) a (sym new ∙ at)))

idle_quiet : (k : KernelState) (cpu n : ℕ) → after k cpu ≡ k → AreQuiet k cpu n
idle_quiet k cpu n same = record {
  still = λ blocked none. ap (λ (s : KernelState). deadline_of s.times n) same ∙ none;
  alarms = λ alarm a at. (a, ap (λ (s : KernelState). slice_get s.times.alarms alarm) (sym same) ∙ at, refl);
}

changed_rest : (k : KernelState) (S T : ℕ → Type 0) (cpu ec n : ℕ) (words : List ℕ) (x : EcState) → AreSeparate k S T → IsAfter k S cpu → IsAfter k T cpu → AreHomed k → AreQuiet k cpu n → Acts k cpu ec → HasTables (after k cpu) → Grows k ec (after k cpu) →
    context_at (after k cpu) n ≡ Some x → ContextBy k ec n words (context_at k n) (context_at (after k cpu) n) →
    Rest (after k cpu) (more k S cpu) (more k T cpu) n x.state
changed_rest k S T cpu ec n words x apart a b homed quiet acts_ tables grows is by = by_change by
  where
    actor : Either k S T ec
    actor = acts_in k S T cpu ec apart acts_

    raises : (sm : ℕ) → AsksUp k ec sm → Either k S T ec → IsStuck k S T n sm → ⊥
    raises sm asks (inl m) idle = idle.first (holds_of k S ec SM_CTRL sm up_right m asks.names)
    raises sm asks (inr m) idle = idle.second (holds_of k T ec SM_CTRL sm up_right m asks.names)

    waited : (y : EcState) → y.state ≡ Calling ec → Rest k S T n y.state → Rest (after k cpu) (more k S cpu) (more k T cpu) n x.state
    waited y state (inl idle) = absurd (subst (IsIdle k S T n) state idle)
    waited y state (inr m) = inr (either_later k S T cpu n m)

    woken : (sm : ℕ) (y : EcState) → AsksUp k ec sm → y.state ≡ Blocked sm → Rest k S T n y.state → Rest (after k cpu) (more k S cpu) (more k T cpu) n x.state
    woken sm y names state (inl idle) = absurd (raises sm names actor (subst (IsIdle k S T n) state idle))
    woken sm y names state (inr m) = inr (either_later k S T cpu n m)

    by_actor : n ≡ length k.objects → Either k S T ec → Either (after k cpu) (more k S cpu) (more k T cpu) n
    by_actor next (inl m) = inl (subst (IsMember (after k cpu) (more k S cpu)) (sym next)
        (born_in k S cpu ec apart.first acts_ m tables grows (subst (λ (i : ℕ). is_some (context_at (after k cpu) i) ≡ true) next (ap (λ (o : Option EcState). is_some o) is))))
    by_actor next (inr m) = inr (subst (IsMember (after k cpu) (more k T cpu)) (sym next)
        (born_in k T cpu ec apart.second acts_ m tables grows (subst (λ (i : ℕ). is_some (context_at (after k cpu) i) ≡ true) next (ap (λ (o : Option EcState). is_some o) is))))

    by_change : ContextBy k ec n words (context_at k n) (context_at (after k cpu) n) → Rest (after k cpu) (more k S cpu) (more k T cpu) n x.state
    by_change (Itself same y z old new own) = inr (either_later k S T cpu n (subst (Either k S T) (sym same) actor))
    by_change (Called c y old parked new) = inr (either_later k S T cpu n (sent_to k S T ec n apart actor (inl c)))
    by_change (ExitSent e y old parked new) = inr (either_later k S T cpu n (sent_to k S T ec n apart actor (inr e)))
    by_change (Resumed mark serves y old waits new) = waited y waits (apart.rest n y old)
    by_change (Recalled names y old new) =
        let same : record y { recall = true } ≡ x = same_Some _ _ (sym new ∙ is) in
        subst (λ (z : EcState). Rest (after k cpu) (more k S cpu) (more k T cpu) n z.state) same (rest_later k S T cpu n y.state a b homed quiet (ap (λ (o : Option EcState). option_map (λ x. x.state) o) old) (apart.rest n y old))
    by_change (Woken sm names rest waiting y old blocked new) = woken sm y names blocked (apart.rest n y old)
    by_change (NewContext new born) = inr (by_actor new.next actor)

pub rest_after : (s : Scenario) (before : List ℕ) (S T : ℕ → Type 0) (cpu : ℕ) → AreSeparate (run (boot s) before) S T → (n : ℕ) (x : EcState) →
    context_at (after (run (boot s) before) cpu) n ≡ Some x →
    Rest (after (run (boot s) before) cpu) (more (run (boot s) before) S cpu) (more (run (boot s) before) T cpu) n x.state
rest_after s before S T cpu apart n x is = elim (comes k cpu) [
  | Stays none quiet same answer ↦ unchanged (idle_quiet k cpu n same) (ap (λ (l : KernelState). context_at l n) (sym same) ∙ is)
  | Turns t e takes state answer ↦ elim takes [
    | Chosen c chosen its event ↦
        let acts_ : Acts k cpu c.actor = ap (option_map (λ (d : Candidate). d.actor)) chosen in
        let right = authorised_by s before cpu c.actor acts_ in
        by_right c.actor acts_ (chosen_grows k cpu c chosen) (acting_quiet k cpu c.actor right.0 n (acting_one k cpu c.actor acts_) right.2) (right.2.contexts n)
    | Comes p passes its event ↦
        let right : IsByTime k (after k cpu) cpu (due_in p) = subst (λ (l : KernelState). IsByTime k l cpu (due_in p)) (sym (state ∙ ap (turned k cpu) its)) (turned_by_time k cpu p passes (boot_run_fits s before)) in
        by_time (due_in p) (timed_quiet k cpu n (due_in p) right) (right.contexts n)
  ]
]
  where
    k : KernelState
    k = run (boot s) before

    tables : HasTables (after k cpu)
    tables = subst HasTables (run_append (boot s) before (cpu ∷ [])) (reached_sound s (before ++ cpu ∷ [])).kept.tables

    unchanged : AreQuiet k cpu n → context_at k n ≡ Some x → Rest (after k cpu) (more k S cpu) (more k T cpu) n x.state
    unchanged quiet at =
        rest_later k S T cpu n x.state (first_after s before S T cpu apart) (second_after s before S T cpu apart) (reached_homed s before) quiet
        (ap (λ (o : Option EcState). option_map (λ x. x.state) o) at) (apart.rest n x at)

    by_right : (ec : ℕ) → Acts k cpu ec → Grows k ec (after k cpu) → AreQuiet k cpu n →
        (context_at (after k cpu) n ≡ context_at k n) ⊎ ContextBy k ec n (message (after k cpu) ec) (context_at k n) (context_at (after k cpu) n) →
        Rest (after k cpu) (more k S cpu) (more k T cpu) n x.state
    by_right ec acts_ grows quiet (inl same) = unchanged quiet (sym same ∙ is)
    by_right ec acts_ grows quiet (inr by) =
        changed_rest k S T cpu ec n (message (after k cpu) ec) x apart (first_after s before S T cpu apart) (second_after s before S T cpu apart) (reached_homed s before) quiet acts_ tables grows is by

    rung : (sm : ℕ) (y : EcState) → y.state ≡ Blocked sm → (IsStuck k S T n sm → ⊥) → Rest k S T n y.state → Rest (after k cpu) (more k S cpu) (more k T cpu) n x.state
    rung sm y blocked never (inl idle) = absurd (never (subst (IsIdle k S T n) blocked idle))
    rung sm y blocked never (inr m) = inr (either_later k S T cpu n m)

    by_time : (what : Option Due) → AreQuiet k cpu n → (context_at (after k cpu) n ≡ context_at k n) ⊎ ContextByTime k what n (context_at k n) (context_at (after k cpu) n) →
        Rest (after k cpu) (more k S cpu) (more k T cpu) n x.state
    by_time what quiet (inl same) = unchanged quiet (sym same ∙ is)
    by_time what quiet (inr (RungAwake alarm a due_ there rest first y old blocked new)) = rung a.alarm.sm y blocked (λ stuck. stuck.alarms alarm a there refl) (apart.rest n y old)
    by_time what quiet (inr (TimedOut d due_ has y old blocked new)) =
        rung d.sm y blocked (λ stuck. let both : Some d ≡ None = sym has ∙ stuck.deadline in cc) (apart.rest n y old)
