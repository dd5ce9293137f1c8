-- Where processors are divided, and others create nothing, the side's stay its own.
use Rattle.std.proofs.Common.{◌≡◌, ◌⊎◌, ℕ, List, [], ◌∷◌, ◌++◌, length, refl, sym, ap, ◌∙◌, subst, inl, inr, arith}
use Rattle.std.specs.Prelude.{Bool, true, false, IfSome, nat_lt, slice_get, option_map, Option, Some, None}
use Rattle.std.proofs.lemmas.Option.{slice_get_within}
use Rattle.nova_objects.specs.declared.object.EcKind.{EcKind}
use Rattle.nova_objects.specs.declared.object.Object.{Object}
use Rattle.nova_objects.specs.declared.object.Object.TheVariants.{Pd, Ec, Sc}
use Rattle.nova_model.specs.Boot.{Scenario, boot}
use Rattle.nova_model.specs.Capabilities.{create_right}
use Rattle.nova_model.specs.Choice.{Candidate}
use Rattle.nova_model.specs.Creation.{object_of}
use Rattle.nova_model.specs.Deeds.{deed}
use Rattle.nova_model.specs.Edges.{state_in}
use Rattle.nova_model.specs.Runs.{after, run}
use Rattle.nova_model.specs.State.{KernelState, context_at, deadline_of, pd_in}
use Rattle.nova_model.specs.declared.context.EcState.{EcState}
use Rattle.nova_model.specs.declared.context.State.{State}
use Rattle.nova_model.specs.declared.context.State.TheVariants.{Blocked, Dead, Parked}
use Rattle.nova_model.specs.declared.times.Alarm.{Alarm}
use Rattle.nova_model.specs.declared.times.Deadline.{Deadline}
use Rattle.law_forest.specs.Effects.{made_by}
use Rattle.law_forest.specs.Made.{MayCreate}
use Rattle.law_forest.specs.Turns.{Acts as Chosen, Idles, Passes, Takes, turned}
use Rattle.law_forest.proofs.Turning.{comes}
use Rattle.law_turns.specs.Tables.{IsContext, Refers, Suits}
use Rattle.law_turns.proofs.Suited.{tables_suit}
use Rattle.law_isolation.specs.Sound.{IsSound}
use Rattle.law_isolation.proofs.Runs.{reached_sound}
use Rattle.law_origins.specs.Giving.{Acts}
use Rattle.law_origins.proofs.Actors.{object_stays}
use Rattle.law_origins.proofs.Lists.{run_append}
use Rattle.law_integrity.specs.Confined.{Holds, IsIdle, IsMember, IsOwned, Of, more}
use Rattle.law_integrity.specs.Integrity.{Creates, Gives, GrowsByRight, Keeps, Takes as TakesLeaf}
use Rattle.law_integrity.proofs.Apart.{target_there}
use Rattle.law_integrity.proofs.Authorised.{authorised_by}
use Rattle.law_integrity.proofs.Confining.{acts_one, both_member, member_pd}
use Rattle.law_integrity.proofs.Edges.{at_index}
use Rattle.law_integrity.proofs.Homes.{reached_homed}
use Rattle.law_integrity.proofs.Resting.{IsMadeNow, acts_in, holds_made, second_after}
use Rattle.law_flow.specs.Flow.{AreAtWork, DerivesWithin, IsAtWork, IsPartitioned, OthersMakeNothing, RevokesNothing, Allowed, domains, existing, own_turn}
use Rattle.law_flow.specs.Processors.{AreAtHome, AreOn, IsAtHome, IsDivided, IsStill, StayOn, is_still}
use Rattle.law_flow.proofs.Apart.{IsKeptApart, MakesNothing, apart_others_derive, apart_own_derives}
use Rattle.law_flow.proofs.Away.{GoesHome, OwnWorks}
use Rattle.law_flow.proofs.Elsewhere.{away_next, has_there, home_next}
use Rattle.law_flow.proofs.Existing.{in_existing, is_below, none_domains, of_domains, past_is}
use Rattle.law_flow.proofs.Lasting.{IsCreatingApart}
use Rattle.law_flow.proofs.Pairs.{first_made, never}
use Rattle.law_flow.proofs.Whole.{own_domains}
use Rattle.law_flow.proofs.Within.{own_at, own_member}
use Rattle.law_flow.proofs.Tables.{unjoined}
use Rattle.law_flow.proofs.Guarding.{alarm_was, own_from}
use Rattle.law_flow.proofs.Turns.{own_acts, own_is, own_turned}

-- WHO IS NEITHER'S IS STILL

still_of : (k : KernelState) (S T : ℕ → Type 0) (n : ℕ) (x : EcState) → IsSound k → context_at k n ≡ Some x → IsIdle k S T n x.state → IsStill k n
still_of k S T n x sound there idle = by_state x.state refl idle
  where
    at : (t : State) → x.state ≡ t → state_in k.contexts n ≡ Some t
    at t is = ap (option_map (λ (x : EcState). x.state)) there ∙ ap (λ (t : State). Some t) is

    no_deadline : (t : State) → x.state ≡ t → ((sm : ℕ) → t ≡ Blocked sm → ⊥) → (d : Option Deadline) → deadline_of k.times n ≡ d → d ≡ None
    no_deadline t is awake None has = refl
    no_deadline t is awake (Some d) has =
        absurd (awake d.sm (let both : Some t ≡ Some (Blocked d.sm) = sym (at t is) ∙ (sound.kept.deadlines n d has).blocked in cc))

    by_state : (t : State) → x.state ≡ t → IsIdle k S T n t → IsStill k n
    by_state Parked is idle_ = record { state = ap is_still (at Parked is); deadline = no_deadline Parked is (λ sm h. absurd (cc)) (deadline_of k.times n) refl }
    by_state Dead is idle_ = record { state = ap is_still (at Dead is); deadline = no_deadline Dead is (λ sm h. absurd (cc)) (deadline_of k.times n) refl }
    by_state (Blocked sm) is idle_ = record { state = ap is_still (at (Blocked sm) is); deadline = idle_.deadline }
    by_state other is idle_ = absurd idle_

home_divided : (s : Scenario) (before : List ℕ) (S P C : ℕ → Bool) (T : ℕ → Type 0) → IsPartitioned (run (boot s) before) (Of S) T (Of P) → IsDivided (run (boot s) before) (Of S) T (Of P) (Of C) →
    IsAtHome (run (boot s) before) (Of S) (Of P) (Of C)
home_divided s before S P C T part divided = record {
  strangers = λ n pd cpu kind event is c. by_context n pd cpu kind event is c (subst (λ (o : Option Object). IfSome o (Suits k n)) is (tables_suit s before n)).0;
  has = divided.has;
}
  where
    k : KernelState
    k = run (boot s) before

    by_context : (n pd cpu : ℕ) (kind : EcKind) (event : ℕ) → slice_get (run (boot s) before).objects n ≡ Some (Ec pd cpu kind event) → C cpu ≡ true → IsContext (run (boot s) before) n pd cpu →
        (S pd ≡ true) ⊎ IsStill (run (boot s) before) n
    by_context n pd cpu kind event is c context = elim (part.apart.separate.rest n context.state context.there) [
      | inl idle ↦ inr (still_of k (Of S) T n context.state (reached_sound s before) context.there idle)
      | inr sides ↦ elim sides [
        | inl m ↦ inl (sym (ap (λ (o : Option Object). S (pd_in o)) is) ∙ member_pd k (Of S) n m)
        | inr m ↦ absurd (divided.others n pd cpu kind event is (subst T (ap pd_in is) (member_pd k T n m)) c)
      ]
    ]

-- in what is there
divided_there : (k : KernelState) (S P C : ℕ → Bool) (T : ℕ → Type 0) → IsDivided k (Of S) T (Of P) (Of C) → IsDivided k (Of (domains k S)) T (Of (existing k P)) (Of C)
divided_there k S P C T d = record { has = has_there k S P C d.has; others = d.others; creates = d.creates }

pub at_home_of : (creates : Bool) (s : Scenario) (before : List ℕ) (S P C : ℕ → Bool) (T : ℕ → Type 0) → IsKeptApart creates (run (boot s) before) S P T → IsDivided (run (boot s) before) (Of S) T (Of P) (Of C) →
    IsAtHome (run (boot s) before) (Of S) (Of P) (Of C)
at_home_of false s before S P C T part divided = home_divided s before S P C T part divided
at_home_of true s before S P C T part divided =
    let k = run (boot s) before in
    let there = home_divided s before (domains k S) (existing k P) C T part.part (divided_there k S P C T divided) in
    record {
      has = divided.has;
      strangers = λ n pd cpu kind event is c. elim (there.strangers n pd cpu kind event is c) [
        | inl mine ↦ inl (of_domains k S pd mine)
        | inr still ↦ inr still
      ];
    }

-- NO OBJECT IS MADE

-- the others hold no right to create
abbrev CreatesNothing : KernelState → (ℕ → Type 0) → Type 0
CreatesNothing k T = (pd : ℕ) → T pd → MayCreate k pd → ⊥

others_objects : (s : Scenario) (before : List ℕ) (S P : ℕ → Bool) (T : ℕ → Type 0) (cpu : ℕ) → IsPartitioned (run (boot s) before) (Of S) T (Of P) → CreatesNothing (run (boot s) before) T → own_turn S (run (boot s) before) cpu ≡ None →
    (after (run (boot s) before) cpu).objects ≡ (run (boot s) before).objects
others_objects s before S P T cpu part none nobody_own_ = elim (comes (run (boot s) before) cpu) [
  | Idles nobody quiet same answer ↦ ap (λ (l : KernelState). l.objects) same
  | Takes t e is state answer ↦ elim is [
    | Chosen d chosen its event ↦ by_member d.actor (ap (option_map (λ (d : Candidate). d.actor)) chosen) (acts_in k (Of S) T cpu d.actor part.apart.separate (ap (option_map (λ (d : Candidate). d.actor)) chosen))
    | Passes p passes its event ↦ ap (λ (l : KernelState). l.objects) (state ∙ ap (turned (run (boot s) before) cpu) its)
  ]
]
  where
    k : KernelState
    k = run (boot s) before

    by_grows : (ec : ℕ) → IsMember (run (boot s) before) T ec → GrowsByRight (run (boot s) before) (after (run (boot s) before) cpu) ec → (after (run (boot s) before) cpu).objects ≡ (run (boot s) before).objects
    by_grows ec m (Keeps same delegations) = same
    by_grows ec m (Gives child source has edge_ within shared given gives same delegations) = same
    by_grows ec m (TakesLeaf leaf may same delegations) = same
    by_grows ec m (Creates object capability first joins delegations) = absurd (none capability.pd (subst T (sym first.pd) (member_pd k T ec m)) first.creator)

    by_member : (ec : ℕ) → Acts (run (boot s) before) cpu ec → IsMember (run (boot s) before) (Of S) ec ⊎ IsMember (run (boot s) before) T ec →
        (after (run (boot s) before) cpu).objects ≡ (run (boot s) before).objects
    by_member ec acts_ (inl m) = absurd (own_from S k cpu ec acts_ (member_pd k (Of S) ec m) nobody_own_)
    by_member ec acts_ (inr m) = by_grows ec m (authorised_by s before cpu ec acts_).2.grows

pub others_make_nothing : (creates : Bool) (s : Scenario) (before : List ℕ) (S P : ℕ → Bool) (T : ℕ → Type 0) (cpu : ℕ) → IsKeptApart creates (run (boot s) before) S P T → CreatesNothing (run (boot s) before) T → own_turn S (run (boot s) before) cpu ≡ None →
    (after (run (boot s) before) cpu).objects ≡ (run (boot s) before).objects
others_make_nothing false s before S P T cpu part none own = others_objects s before S P T cpu part none own
others_make_nothing true s before S P T cpu part none own =
    let k = run (boot s) before in others_objects s before (domains k S) (existing k P) T cpu part.part none (none_domains k S cpu own)

-- one of the side's own that makes none, too
own_objects : (timed : Type 0) (revokes : Bool) (s : Scenario) (before : List ℕ) (S P : ℕ → Bool) (T : ℕ → Type 0) (cpu ec sc : ℕ) → IsPartitioned (run (boot s) before) (Of S) T (Of P) →
    own_turn S (run (boot s) before) cpu ≡ Some (ec, sc) → IsAtWork timed (RevokesNothing (run (boot s) before) (Of S)) (revokes ≡ true) (false ≡ true) (run (boot s) before) ec →
    (revokes ≡ true → DerivesWithin (run (boot s) before) (Of S)) → (after (run (boot s) before) cpu).objects ≡ (run (boot s) before).objects
own_objects timed revokes s before S P T cpu ec sc c own works within =
    let k = run (boot s) before in
    let d = deed k ec in
    let mine = own_at timed (revokes ≡ true) (false ≡ true) S P T k cpu ec sc (reached_sound s before) c own works within in
    ap (λ (l : KernelState). l.objects) (own_turned S k cpu ec sc (own_is S k cpu ec sc own)) ∙ unjoined k.objects object_of (made_by d) (first_made timed (false ≡ true) k (Of S) (Of P) d never mine)

-- AFTER A TURN

-- what is the others' is on none of the side's processors
others_apart_on : (s : Scenario) (before : List ℕ) (S P C : ℕ → Bool) (T : ℕ → Type 0) (cpu : ℕ) → IsDivided (run (boot s) before) (Of S) T (Of P) (Of C) → (n pd on : ℕ) (kind : EcKind) (event : ℕ) →
    slice_get (run (boot s) before).objects n ≡ Some (Ec pd on kind event) → more (run (boot s) before) T cpu pd → C on ≡ true → ⊥
others_apart_on s before S P C T cpu d n pd on kind event is (inl t) c = d.others n pd on kind event is t c
others_apart_on s before S P C T cpu d n pd on kind event is (inr made) c =
    let k = run (boot s) before in
    let its : slice_get k.objects pd ≡ Some Pd = at_index (Refers k.objects) k.objects n (Ec pd on kind event) (reached_sound s before).kept.tables.refer is in
    let below = slice_get_within k.objects pd Pd its in let number = made.number in omega (arith, below, number)

-- whoever makes an object, the others come to no right to create
nothing_next : (s : Scenario) (before : List ℕ) (S P : ℕ → Type 0) (T : ℕ → Type 0) (cpu : ℕ) → IsPartitioned (run (boot s) before) S T P → CreatesNothing (run (boot s) before) T →
    ((n : ℕ) → IsMadeNow (run (boot s) before) T cpu n → slice_get (after (run (boot s) before) cpu).objects n ≡ Some Pd → ⊥) → CreatesNothing (after (run (boot s) before) cpu) (more (run (boot s) before) T cpu)
nothing_next s before S P T cpu part none unmade_ pd t may =
    by_held (holds_made k T cpu create_right may.capability.target (second_after s before S T cpu part.apart.separate) (reached_homed s before)
    (record { capability = may.capability; there = may.there; of = subst (more k T cpu) (sym may.held) t; kind = may.kind; leads = refl; allowed = may.create }))
  where
    k : KernelState
    k = run (boot s) before

    by_held : Holds (run (boot s) before) T create_right may.capability.target ⊎ IsMadeNow (run (boot s) before) T cpu may.capability.target → ⊥
    by_held (inl held) =
        let there = target_there k T create_right may.capability.target (reached_homed s before) held in
        none held.capability.pd held.of (record {
          capability = held.capability;
          there = held.there;
          held = refl;
          kind = held.kind;
          leads = ap (slice_get k.objects) held.leads ∙ sym (object_stays k cpu may.capability.target there) ∙ may.leads;
          create = held.allowed;
        })
    by_held (inr made) = unmade_ may.capability.target made may.leads

-- where no object is made
divided_same : (s : Scenario) (before : List ℕ) (S P C : ℕ → Bool) (A B T : ℕ → Type 0) (cpu : ℕ) → IsPartitioned (run (boot s) before) A T B → IsDivided (run (boot s) before) (Of S) T (Of P) (Of C) →
    (after (run (boot s) before) cpu).objects ≡ (run (boot s) before).objects → IsDivided (after (run (boot s) before) cpu) (Of S) (more (run (boot s) before) T cpu) (Of P) (Of C)
divided_same s before S P C A B T cpu part d same = record {
  has = record {
    contexts = λ n pd on kind event is mine. d.has.contexts n pd on kind event (was n (Ec pd on kind event) is) mine;
    schedules = λ n donor on priority quantum is m.
        d.has.schedules n donor on priority quantum (was n (Sc donor on priority quantum) is)
        (record { domain = m.domain; cpu = m.cpu; kind = m.kind; event = m.event; object = was donor (Ec m.domain m.cpu m.kind m.event) m.object; of = m.of });
    rings = λ n a at p. let b = alarm_was s before cpu n a at in subst (λ (x : Alarm). Of C x.cpu) b.2 (d.has.rings n b.0 b.1 (subst (λ (x : Alarm). Of P x.sm) (sym b.2) p));
  };
  others = λ n pd on kind event is theirs c. others_apart_on s before S P C T cpu d n pd on kind event (was n (Ec pd on kind event) is) theirs c;
  creates = nothing_next s before A B T cpu part d.creates
      (λ n made leads. let below = slice_get_within k.objects n Pd (was n Pd leads) in let number = made.number in omega (arith, below, number));
}
  where
    k : KernelState
    k = run (boot s) before

    was : (n : ℕ) (o : Object) → slice_get (after (run (boot s) before) cpu).objects n ≡ Some o → slice_get (run (boot s) before).objects n ≡ Some o
    was n o is = sym (ap (λ (os : List Object). slice_get os n) same) ∙ is

-- in a turn of one of its own, where it may create
divided_grown : (s : Scenario) (before : List ℕ) (S P C : ℕ → Bool) (T : ℕ → Type 0) (cpu ec sc : ℕ) → IsCreatingApart (run (boot s) before) S P T → own_turn S (run (boot s) before) cpu ≡ Some (ec, sc) →
    IsCreatingApart (after (run (boot s) before) cpu) S P (more (run (boot s) before) T cpu) → AreOn (after (run (boot s) before) cpu) (Of S) (Of C) → IsDivided (run (boot s) before) (Of S) T (Of P) (Of C) →
    IsDivided (after (run (boot s) before) cpu) (Of S) (more (run (boot s) before) T cpu) (Of P) (Of C)
divided_grown s before S P C T cpu ec sc c own next on d = record {
  has = record {
    contexts = on;
    schedules = λ n donor its priority quantum is m. next.alone.schedules n donor its priority quantum is (next.alone.members donor m.domain m.cpu m.kind m.event m.object m.of);
    rings = λ n a at p. let b = alarm_was s before cpu n a at in subst (λ (x : Alarm). Of C x.cpu) b.2 (d.has.rings n b.0 b.1 (subst (λ (x : Alarm). Of P x.sm) (sym b.2) p));
  };
  others = λ n pd its kind event is theirs q. by_place n pd its kind event is theirs q (nat_lt n (length k.objects)) refl;
  creates = nothing_next s before (Of (domains k S)) (Of (existing k P)) T cpu c.part d.creates
      (λ n made leads.
      both_member k (Of (domains k S)) T made.maker c.part.apart.separate.disjoint
      (subst (IsMember k (Of (domains k S))) (acts_one k cpu ec made.maker (own_acts (domains k S) k cpu ec sc (own_is (domains k S) k cpu ec sc there)) made.acts) (own_member (domains k S) k cpu ec sc sound there)) made.of);
}
  where
    k : KernelState
    k = run (boot s) before

    new : KernelState
    new = after (run (boot s) before) cpu

    sound : IsSound (run (boot s) before)
    sound = reached_sound s before

    there : own_turn (domains (run (boot s) before) S) (run (boot s) before) cpu ≡ Some (ec, sc)
    there = own_domains S k cpu ec sc sound own

    by_place : (n pd its : ℕ) (kind : EcKind) (event : ℕ) → slice_get (after (run (boot s) before) cpu).objects n ≡ Some (Ec pd its kind event) → more (run (boot s) before) T cpu pd → C its ≡ true →
        (t : Bool) → nat_lt n (length (run (boot s) before).objects) ≡ t → ⊥
    by_place n pd its kind event is theirs q true inside =
        others_apart_on s before S P C T cpu d n pd its kind event (sym (object_stays k cpu n (is_below n (length k.objects) inside)) ∙ is) theirs q
    by_place n pd its kind event is theirs q false past =
        let p = in_existing new P n (c.alone.objects n (past_is n (length k.objects) past)) (slice_get_within new.objects n (Ec pd its kind event) is) in
        next.part.apart.separate.disjoint pd (subst (IsOwned new (Of (domains new S)) n) is (next.part.guarded.owned n p)) theirs

pub divided_next : (allowed : Allowed) (s : Scenario) (before : List ℕ) (S P C : ℕ → Bool) (T : ℕ → Type 0) (cpu : ℕ) → IsKeptApart allowed.creates (run (boot s) before) S P T → IsDivided (run (boot s) before) (Of S) T (Of P) (Of C) →
    OwnWorks allowed S (run (boot s) before) cpu → (allowed.revokes ≡ true → DerivesWithin (run (boot s) before) (Of S)) → IsKeptApart allowed.creates (after (run (boot s) before) cpu) S P (more (run (boot s) before) T cpu) →
    (allowed.creates ≡ true → AreOn (after (run (boot s) before) cpu) (Of S) (Of C)) → IsDivided (after (run (boot s) before) cpu) (Of S) (more (run (boot s) before) T cpu) (Of P) (Of C)
divided_next allowed s before S P C T cpu part d works within next on = by_own (own_turn S (run (boot s) before) cpu) refl
  where
    k : KernelState
    k = run (boot s) before

    still : (creates : Bool) → IsKeptApart creates (run (boot s) before) S P T → (after (run (boot s) before) cpu).objects ≡ (run (boot s) before).objects →
        IsDivided (after (run (boot s) before) cpu) (Of S) (more (run (boot s) before) T cpu) (Of P) (Of C)
    still false p same = divided_same s before S P C (Of S) (Of P) T cpu p d same
    still true p same = divided_same s before S P C (Of (domains k S)) (Of (existing k P)) T cpu p.part d same

    own_one : (creates : Bool) (ec sc : ℕ) → own_turn S (run (boot s) before) cpu ≡ Some (ec, sc) → IsKeptApart creates (run (boot s) before) S P T → IsKeptApart creates (after (run (boot s) before) cpu) S P (more (run (boot s) before) T cpu) →
        IsAtWork (Unit {0}) (RevokesNothing (run (boot s) before) (Of S)) (allowed.revokes ≡ true) (creates ≡ true) (run (boot s) before) ec → (creates ≡ true → AreOn (after (run (boot s) before) cpu) (Of S) (Of C)) →
        IsDivided (after (run (boot s) before) cpu) (Of S) (more (run (boot s) before) T cpu) (Of P) (Of C)
    own_one false ec sc is p q w o = still false p (own_objects (Unit {0}) allowed.revokes s before S P T cpu ec sc p is w within)
    own_one true ec sc is p q w o = divided_grown s before S P C T cpu ec sc p is q (o refl) d

    by_own : (o : Option (ℕ × ℕ)) → own_turn S (run (boot s) before) cpu ≡ o → IsDivided (after (run (boot s) before) cpu) (Of S) (more (run (boot s) before) T cpu) (Of P) (Of C)
    by_own None none = still allowed.creates part (others_make_nothing allowed.creates s before S P T cpu part d.creates none)
    by_own (Some pair) is = own_one allowed.creates pair.0 pair.1 is part next (works pair.0 pair.1 is) on

-- ALONG TURNS

-- what the others do makes nothing of what the side holds, and what it does itself stays within it
derives_next : (allowed : Allowed) (s : Scenario) (before : List ℕ) (S P : ℕ → Bool) (T : ℕ → Type 0) (cpu : ℕ) → IsKeptApart allowed.creates (run (boot s) before) S P T → (allowed.creates ≡ true → MakesNothing S (run (boot s) before) cpu) →
    OwnWorks allowed S (run (boot s) before) cpu → (allowed.revokes ≡ true → DerivesWithin (run (boot s) before) (Of S)) → allowed.revokes ≡ true → DerivesWithin (after (run (boot s) before) cpu) (Of S)
derives_next allowed s before S P T cpu part nothing works within may = by_own (own_turn S (run (boot s) before) cpu) refl
  where
    by_own : (o : Option (ℕ × ℕ)) → own_turn S (run (boot s) before) cpu ≡ o → DerivesWithin (after (run (boot s) before) cpu) (Of S)
    by_own None is = apart_others_derive allowed.creates s before S P T cpu part is nothing (within may)
    by_own (Some pair) is = apart_own_derives (Unit {0}) allowed.revokes allowed.creates s before S P T cpu pair.0 pair.1 part is (works pair.0 pair.1 is) within may

pub stays_here : (S C : ℕ → Bool) (k : KernelState) (turns : List ℕ) → StayOn S C k turns → AreOn k (Of S) (Of C)
stays_here S C k [] stays = stays
stays_here S C k (cpu ∷ turns) stays = stays.0

pub divided_along : (allowed : Allowed) (s : Scenario) (before turns : List ℕ) (S P C : ℕ → Bool) (T : ℕ → Type 0) → IsKeptApart allowed.creates (run (boot s) before) S P T → IsDivided (run (boot s) before) (Of S) T (Of P) (Of C) →
    (allowed.revokes ≡ true → DerivesWithin (run (boot s) before) (Of S)) → AreAtWork allowed S (run (boot s) before) turns → (allowed.creates ≡ true → StayOn S C (run (boot s) before) turns) →
    AreAtHome S P C (run (boot s) before) turns × (allowed.creates ≡ true → OthersMakeNothing S (run (boot s) before) turns)
divided_along allowed s before [] S P C T part divided within works stays = (tt, λ yes. tt)
divided_along allowed s before (cpu ∷ turns) S P C T part divided within works stays =
    let rest =
    subst (λ (l : KernelState). IsKeptApart allowed.creates l S P (more k T cpu) → IsDivided l (Of S) (more k T cpu) (Of P) (Of C) → (allowed.revokes ≡ true → DerivesWithin l (Of S)) → AreAtWork allowed S l turns →
    (allowed.creates ≡ true → StayOn S C l turns) → AreAtHome S P C l turns × (allowed.creates ≡ true → OthersMakeNothing S l turns)) next
    (divided_along allowed s (before ++ cpu ∷ []) turns S P C (more k T cpu)) apart
    (divided_next allowed s before S P C T cpu part divided works.0 within apart (λ yes. stays_here S C (after k cpu) turns (stays yes).1))
    (λ yes. derives_next allowed s before S P T cpu part nothing works.0 within yes) works.1 (λ yes. (stays yes).1) in
    ((home, rest.0), λ yes. (nothing yes, rest.1 yes))
  where
    k : KernelState
    k = run (boot s) before

    next : run (boot s) (before ++ cpu ∷ []) ≡ after (run (boot s) before) cpu
    next = run_append (boot s) before (cpu ∷ [])

    home : IsAtHome (run (boot s) before) (Of S) (Of P) (Of C)
    home = at_home_of allowed.creates s before S P C T part divided

    nothing : allowed.creates ≡ true → MakesNothing S (run (boot s) before) cpu
    nothing may none = ap (λ (os : List Object). length os) (others_make_nothing allowed.creates s before S P T cpu part divided.creates none)

    by_test : (t : Bool) → C cpu ≡ t → IsKeptApart allowed.creates (after (run (boot s) before) cpu) S P (more (run (boot s) before) T cpu)
    by_test true c = home_next allowed s before S P C T cpu part home nothing c works.0 within
    by_test false c = away_next allowed.creates s before S P C T cpu part home nothing c

    apart : IsKeptApart allowed.creates (after (run (boot s) before) cpu) S P (more (run (boot s) before) T cpu)
    apart = by_test (C cpu) refl

pub goes_divided : (allowed : Allowed) (s : Scenario) (before turns : List ℕ) (S P C : ℕ → Bool) (T : ℕ → Type 0) → IsKeptApart allowed.creates (run (boot s) before) S P T → IsDivided (run (boot s) before) (Of S) T (Of P) (Of C) →
    (allowed.revokes ≡ true → DerivesWithin (run (boot s) before) (Of S)) → AreAtWork allowed S (run (boot s) before) turns → (allowed.creates ≡ true → StayOn S C (run (boot s) before) turns) →
    GoesHome allowed.creates (run (boot s) before) S P C T turns
goes_divided allowed s before turns S P C T part divided within works stays =
    let along = divided_along allowed s before turns S P C T part divided within works stays in
    record { reached = record { scenario = s; before = before; is = refl; part = part }; home = along.0; nothing = along.1 }
