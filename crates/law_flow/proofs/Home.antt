-- A turn of a processor of the side's in two states, and of any other.
use Rattle.std.proofs.Common.{◌≡◌, ℕ, zero, suc, List, length, refl, sym, ap, ◌∙◌, subst}
use Rattle.std.specs.Prelude.{Bool, true, false, IfSome, IsSome, is_some, slice_get, option_map, option_and_then, Option, Some, None}
use Rattle.std.proofs.lemmas.Option.{same_Some}
use Rattle.nova_objects.specs.declared.object.EcKind.{EcKind}
use Rattle.nova_objects.specs.declared.object.Object.{Object}
use Rattle.nova_objects.specs.declared.object.Object.TheVariants.{Pd, Ec, Sc, Pt, Sm}
use Rattle.nova_model.specs.Boot.{Scenario, boot}
use Rattle.nova_model.specs.Capabilities.{is_ec, is_sc}
use Rattle.nova_model.specs.Choice.{Candidate, choice, next_to_act}
use Rattle.nova_model.specs.Deeds.{deed}
use Rattle.nova_model.specs.Edges.{AreEdges, after_edges, cpu_in, edge, is_giving}
use Rattle.nova_model.specs.Inputs.{is_stirred}
use Rattle.nova_model.specs.Runs.{after, run}
use Rattle.nova_model.specs.State.{Contexts, KernelState, context, context_at, pd_in, pd_of, processor_in, processor_of}
use Rattle.nova_model.specs.Times.{alarm_sm, due_on, next_entry, next_moment}
use Rattle.nova_model.specs.Turn.{answer_of, turn}
use Rattle.nova_model.specs.declared.context.EcState.{EcState}
use Rattle.nova_model.specs.declared.deed.Deed.{Deed}
use Rattle.nova_model.specs.declared.event.Event.{Event}
use Rattle.nova_model.specs.declared.event.Turn.TheVariants.{Stepped}
use Rattle.nova_model.specs.declared.times.Due.{Due}
use Rattle.nova_model.specs.declared.times.Due.TheVariants as due
use Rattle.law_forest.specs.Effects.{Falls, Passing, Ticks}
use Rattle.law_forest.specs.Turns.{IsPassing, passing, passing_event, turned}
use Rattle.law_forest.proofs.Turning.{acts_next, due_answers, due_turn, event_at, idle_none, tick_answers, tick_turn}
use Rattle.law_turns.proofs.Deadlines.{at_home}
use Rattle.law_turns.proofs.Serving.{actor_of}
use Rattle.law_turns.proofs.Stamps.{stamps_below}
use Rattle.law_turns.proofs.Suited.{tables_suit}
use Rattle.law_turns.proofs.TablesFit.{chosen_acts}
use Rattle.law_turns.proofs.TablesKept.{context_is}
use Rattle.law_turns.specs.Tables.{Suits}
use Rattle.law_isolation.specs.Sound.{IsSound}
use Rattle.law_isolation.proofs.Runs.{reached_sound}
use Rattle.law_integrity.specs.Confined.{Of}
use Rattle.law_integrity.specs.Rights.{HasTurn}
use Rattle.law_integrity.proofs.Authorised.{has_turn}
use Rattle.law_integrity.proofs.Beside.{idle_stays}
use Rattle.law_integrity.proofs.Entries.{same_length}
use Rattle.law_flow.specs.Flow.{AreAlike, AreCreatingAlone, HasSameClock, gain_for, IsAtWork, IsSide, if_own, own_deed, own_turn, RevokesNothing, AreGivingWithin, AreRevokingWithin, IsGivingWithin, Allowed, unnumbered}
use Rattle.law_flow.specs.Processors.{AreTimed, IsAtHome, unfound, unnumbered_event}
use Rattle.law_flow.proofs.Seeing.{Both, context_same}
use Rattle.law_flow.proofs.Creating.{AreMaking}
use Rattle.law_flow.proofs.Numbers.{grows, numbers_kept}
use Rattle.law_flow.proofs.Pairs.{first_own, made_creating, same_event, same_made}
use Rattle.law_flow.proofs.Within.{revokes_second, works_too}
use Rattle.law_flow.proofs.Doing.{by_deed}
use Rattle.law_flow.proofs.Timing.{clock_same, due_same, entries_same}
use Rattle.law_flow.proofs.Choosing.{ChosenSame, Rank, chosen_same, stamped}
use Rattle.law_flow.proofs.Paying.{own_timed}
use Rattle.law_flow.proofs.Telling.{chosen_told, event_told, none_told}
use Rattle.law_flow.proofs.Turns.{AreTwins, decided, own_alike, own_derived, own_gains, own_is, own_numbers, own_of, own_turned, work_as}
use Rattle.law_flow.proofs.Apart.{IsKeptApart, apart_gives, apart_own_derives, apart_owned, apart_side}
use Rattle.law_flow.proofs.Ringing.{IsWithin, RingThere, due_nobody, nobody_own, none_there, pass_same, passed_alike, passed_timed, rung_alike, unfound_ring}
use Rattle.law_flow.proofs.Taking.{revoking_kept}

-- THE TURN OF A PROCESSOR OF THE SIDE'S

-- the same times, and what is asked of both where the side revokes or creates
pub record AreTogether (allowed : Allowed) (k l : KernelState) (S P C : ℕ → Bool) : Type 0 where
  pub timed : AreTimed k l (Of P) (Of C)
  pub within : allowed.revokes ≡ true → AreRevokingWithin k l (Of S)
  pub alone : allowed.creates ≡ true → AreCreatingAlone k l (Of S) (Of P)

-- both states after it
pub record HomeTurn (allowed : Allowed) (k l : KernelState) (S P C : ℕ → Bool) (cpu : ℕ) : Type 0 where
  pub alike : AreAlike (after k cpu) (after l cpu) (Of S) (Of P)
  pub timed : AreTogether allowed (after k cpu) (after l cpu) S P C
  pub deeds : own_deed S l cpu ≡ own_deed S k cpu
  pub bytes : gain_for l cpu (own_turn S l cpu) ≡ gain_for k cpu (own_turn S k cpu)
  pub event : (A : ℕ → Bool) → RingThere A k P C → option_map (unfound A) (option_map unnumbered_event (event_at l cpu)) ≡ option_map (unfound A) (option_map unnumbered_event (event_at k cpu))
  pub works : (ec sc : ℕ) → own_turn S l cpu ≡ Some (ec, sc) → IsAtWork (Unit {0}) (RevokesNothing l (Of S)) (allowed.revokes ≡ true) (allowed.creates ≡ true) l ec

pub own_none_deed : (S : ℕ → Bool) (k : KernelState) (cpu : ℕ) → own_turn S k cpu ≡ None → own_deed S k cpu ≡ None
own_none_deed S k cpu none = ap (λ (o : Option (ℕ × ℕ)). option_map (λ (p : ℕ × ℕ). (p.0, unnumbered (deed k p.0))) o) none

-- who acts is an execution context of the processor
way_cpu : (cs : Contexts) → AreEdges cs → (m n f : ℕ) → after_edges m (edge cs) n ≡ Some f → cpu_in cs f ≡ cpu_in cs n
way_cpu cs sound zero n f is = ap (cpu_in cs) (sym (same_Some n f is))
way_cpu cs sound (suc m) n f is = by_edge (edge cs n) refl is (λ h later. way_cpu cs sound m h f later)
  where
    by_edge : (o : Option ℕ) → edge cs n ≡ o → option_and_then (after_edges m (edge cs)) o ≡ Some f → ((h : ℕ) → after_edges m (edge cs) h ≡ Some f → cpu_in cs f ≡ cpu_in cs h) → cpu_in cs f ≡ cpu_in cs n
    by_edge None at h rest = absurd (cc)
    by_edge (Some g) at h rest = rest g h ∙ sound.one_processor n g at

pub record IsActorOf (k : KernelState) (cpu ec : ℕ) : Type 0 where
  pub pd : ℕ
  pub kind : EcKind
  pub event : ℕ
  pub object : slice_get k.objects ec ≡ Some (Ec pd cpu kind event)

pub actor_there : (s : Scenario) (before : List ℕ) (cpu : ℕ) (c : Candidate) → next_to_act (run (boot s) before) cpu ≡ Some c → IsActorOf (run (boot s) before) cpu c.actor
actor_there s before cpu c is = by_object (slice_get k.objects c.actor) refl kind processor
  where
    k : KernelState
    k = run (boot s) before

    sound : IsSound (run (boot s) before)
    sound = reached_sound s before

    turn : HasTurn (run (boot s) before) cpu c.actor c.sc
    turn = has_turn k cpu c sound.kept.edges is

    there : is_some (context_at (run (boot s) before) c.actor) ≡ true
    there = ap is_some (actor_of k.contexts c.actor (chosen_acts k cpu c is)).there

    kind : option_map is_ec (slice_get (run (boot s) before).objects c.actor) ≡ Some true
    kind = context_is k c.actor there sound.kept.tables

    donor_cpu : cpu_in (run (boot s) before).contexts turn.donor ≡ Some cpu
    donor_cpu = (subst (λ (o : Option Object). IfSome o (Suits k c.sc)) turn.object (tables_suit s before c.sc)).1

    processor : processor_of (run (boot s) before) c.actor ≡ cpu
    processor =
        let both : Some (processor_of k c.actor) ≡ Some cpu = sym (at_home k c.actor there sound.kept.tables) ∙ way_cpu k.contexts sound.kept.edges turn.leads.edges turn.donor c.actor turn.leads.way ∙ donor_cpu in
        same_Some (processor_of k c.actor) cpu both

    by_object : (o : Option Object) → slice_get (run (boot s) before).objects c.actor ≡ o → option_map is_ec o ≡ Some true → processor_in o ≡ cpu → IsActorOf (run (boot s) before) cpu c.actor
    by_object (Some (Ec pd its kind_ event)) at h same = record { pd = pd; kind = kind_; event = event; object = at ∙ ap (λ (n : ℕ). Some (Ec pd n kind_ event)) same }
    by_object (Some Pd) at h same = absurd (cc)
    by_object (Some (Sc ec its priority quantum)) at h same = absurd (cc)
    by_object (Some (Pt ec mtd ip)) at h same = absurd (cc)
    by_object (Some Sm) at h same = absurd (cc)
    by_object None at h same = absurd (cc)

-- the one that is chosen there is the side's
own_chosen : (creates : Bool) (s : Scenario) (before : List ℕ) (S P : ℕ → Bool) (T : ℕ → Type 0) (cpu : ℕ) (c : Candidate) → IsKeptApart creates (run (boot s) before) S P T → P c.actor ≡ true →
    next_to_act (run (boot s) before) cpu ≡ Some c → own_turn S (run (boot s) before) cpu ≡ Some (c.actor, c.sc)
own_chosen creates s before S P T cpu c part p is =
    ap (λ (o : Option Candidate). option_and_then (λ c. if_own (S (pd_of k c.actor)) c) o) is ∙ ap (λ (t : Bool). if_own t c) mine
  where
    k : KernelState
    k = run (boot s) before

    mine : S (pd_of (run (boot s) before) c.actor) ≡ true
    mine =
        let its = actor_there s before cpu c is in
        ap (λ (o : Option Object). S (pd_in o)) its.object ∙ apart_owned creates k S P T part c.actor its.pd cpu its.kind its.event its.object p

-- an object of the part, by states that both come to
object_so : (k l m n : KernelState) (S P : ℕ → Type 0) (i : ℕ) → AreAlike k l S P → k ≡ m → l ≡ n → P i → slice_get n.objects i ≡ slice_get m.objects i
object_so k l m n S P i a first second p = sym (ap (λ (s : KernelState). slice_get s.objects i) second) ∙ a.objects i p ∙ ap (λ (s : KernelState). slice_get s.objects i) first

same_pair : (m n i j : ℕ) → ◌≡◌ {A = Option (ℕ × ℕ)} (Some (m, n)) (Some (i, j)) → m ≡ i
same_pair m n i j is = ap (λ (p : ℕ × ℕ). p.0) (same_Some {A = ℕ × ℕ} (m, n) (i, j) is)

pub home_turn : (allowed : Allowed) (a b : Scenario) (x y : List ℕ) (S P C : ℕ → Bool) (T U : ℕ → Type 0) (cpu : ℕ) →
    IsKeptApart allowed.creates (run (boot a) x) S P T → IsKeptApart allowed.creates (run (boot b) y) S P U → AreAlike (run (boot a) x) (run (boot b) y) (Of S) (Of P) →
    AreTogether allowed (run (boot a) x) (run (boot b) y) S P C → IsAtHome (run (boot a) x) (Of S) (Of P) (Of C) → IsAtHome (run (boot b) y) (Of S) (Of P) (Of C) →
    ((ec sc : ℕ) → own_turn S (run (boot a) x) cpu ≡ Some (ec, sc) → IsAtWork (Unit {0}) (RevokesNothing (run (boot a) x) (Of S)) (allowed.revokes ≡ true) (allowed.creates ≡ true) (run (boot a) x) ec) → C cpu ≡ true → HomeTurn allowed (run (boot a) x) (run (boot b) y) S P C cpu
home_turn allowed a b x y S P C T U cpu first second alike together home abroad works c = by_due (due_on k.times cpu) refl
  where
    k : KernelState
    k = run (boot a) x

    timed : AreTimed (run (boot a) x) (run (boot b) y) (Of P) (Of C)
    timed = together.timed

    l : KernelState
    l = run (boot b) y

    sound : IsSound (run (boot a) x)
    sound = reached_sound a x

    also : IsSound (run (boot b) y)
    also = reached_sound b y

    side : IsSide (run (boot a) x) (Of S) (Of P)
    side = apart_side allowed.creates a x S P T first

    side_too : IsSide (run (boot b) y) (Of S) (Of P)
    side_too = apart_side allowed.creates b y S P U second

    twins : AreTwins (run (boot a) x) (run (boot b) y) S P
    twins = record { side = side; alike = alike; first = sound; second = also }

    two : Both (run (boot a) x) (run (boot b) y) (Of S) (Of P)
    two = record { side = side; alike = alike; first = sound.kept.edges; second = also.kept.edges }

    entry_so : next_entry (run (boot b) y).times cpu ≡ next_entry (run (boot a) x).times cpu
    entry_so = entries_same k l (Of S) (Of P) (Of C) cpu sound also side side_too home abroad alike timed c

    due_so : due_on (run (boot b) y).times cpu ≡ due_on (run (boot a) x).times cpu
    due_so = due_same k l (Of P) (Of C) cpu timed c entry_so

    moment_so : next_moment (run (boot b) y).times cpu ≡ next_moment (run (boot a) x).times cpu
    moment_so = ap (option_map (λ e. e.moment)) entry_so

    chosen : ChosenSame (run (boot a) x) (run (boot b) y) (Of P) cpu
    chosen = chosen_same k l (Of S) (Of P) (Of C) cpu sound also two side_too home abroad timed c

    -- by states that both come to
    so : (m n : KernelState) → after (run (boot a) x) cpu ≡ m → after (run (boot b) y) cpu ≡ n → AreAlike m n (Of S) (Of P) → AreTimed m n (Of P) (Of C) → m.delegations ≡ (run (boot a) x).delegations → n.delegations ≡ (run (boot b) y).delegations →
        m.objects ≡ (run (boot a) x).objects → n.objects ≡ (run (boot b) y).objects →
        own_turn S (run (boot a) x) cpu ≡ None → own_turn S (run (boot b) y) cpu ≡ None →
        ((A : ℕ → Bool) → RingThere A (run (boot a) x) P C → option_map (unfound A) (option_map unnumbered_event (event_at (run (boot b) y) cpu)) ≡ option_map (unfound A) (option_map unnumbered_event (event_at (run (boot a) x) cpu))) →
        HomeTurn allowed (run (boot a) x) (run (boot b) y) S P C cpu
    so m n is its alike_ timed_ kept left same same_too one other told = record {
      alike = subst (λ (s : KernelState). AreAlike s (after l cpu) (Of S) (Of P)) (sym is) (subst (λ (s : KernelState). AreAlike m s (Of S) (Of P)) (sym its) alike_);
      timed = record {
        timed = subst (λ (s : KernelState). AreTimed s (after l cpu) (Of P) (Of C)) (sym is) (subst (λ (s : KernelState). AreTimed m s (Of P) (Of C)) (sym its) timed_);
        within = λ yes. revoking_kept k l (after k cpu) (after l cpu) (Of S) (ap (λ (s : KernelState). s.delegations) is ∙ kept) (ap (λ (s : KernelState). s.delegations) its ∙ left) (together.within yes);
        alone = λ yes.
            numbers_kept k l (after k cpu) (after l cpu) (Of S) (Of P) None (ap (λ (s : KernelState). s.objects) is ∙ same) (ap (λ (s : KernelState). s.objects) its ∙ same_too) (grows k cpu).cpus (grows l cpu).cpus
            (together.alone yes);
      };
      deeds = own_none_deed S l cpu other ∙ sym (own_none_deed S k cpu one);
      bytes = ap (gain_for l cpu) other ∙ sym (ap (gain_for k cpu) one);
      event = told;
      works = λ ec sc own. absurd (let both : None ≡ Some (ec, sc) = sym other ∙ own in cc);
    }

    passes : (p : Passing) → IsPassing (run (boot a) x) cpu p → IsWithin (run (boot a) x) (Of P) p → after (run (boot a) x) cpu ≡ turned (run (boot a) x) cpu (passing (run (boot a) x) p) →
        after (run (boot b) y) cpu ≡ turned (run (boot b) y) cpu (passing (run (boot b) y) p) → next_to_act (run (boot a) x) cpu ≡ None → next_to_act (run (boot b) y) cpu ≡ None →
        answer_of (turn (run (boot a) x) cpu) ≡ Stepped (passing_event (run (boot a) x) cpu p) → answer_of (turn (run (boot b) y) cpu) ≡ Stepped (passing_event (run (boot b) y) cpu p) →
        HomeTurn allowed (run (boot a) x) (run (boot b) y) S P C cpu
    passes p is its one other none nothing first_answer second_answer =
        let same = pass_same k l (Of S) (Of P) (Of C) two sound home timed cpu p c is its in
        so _ _ one other (passed_alike k l (Of S) (Of P) two cpu p same) (passed_timed k l (Of P) (Of C) cpu p timed c is) refl refl refl refl (nobody_own S k cpu none) (nobody_own S l cpu nothing)
        (λ A rings. ap (λ (o : Option Event). option_map (unfound A) (option_map unnumbered_event o)) (event_told l cpu (passing_event l cpu p) second_answer ∙ ap (λ (e : Event). Some e) same.event ∙ sym (event_told k cpu (passing_event k cpu p) first_answer)))

    -- an alarm at another's semaphore
    rings : (n : ℕ) → due_on (run (boot a) x).times cpu ≡ Some (due.Alarm n) → P (alarm_sm (slice_get (run (boot a) x).times.alarms n)) ≡ false → HomeTurn allowed (run (boot a) x) (run (boot b) y) S P C cpu
    rings n is out =
        let its : due_on l.times cpu ≡ Some (due.Alarm n) = due_so ∙ is in
        let ring_k = passing_event k cpu (Falls (due.Alarm n)) in
        let ring_l = passing_event l cpu (Falls (due.Alarm n)) in
        so _ _ (due_turn k cpu (due.Alarm n) is) (due_turn l cpu (due.Alarm n) its) (rung_alike allowed.creates a b x y S P (Of C) T U cpu n first second alike timed c is its out)
        (passed_timed k l (Of P) (Of C) cpu (Falls (due.Alarm n)) timed c is) refl refl refl refl (nobody_own S k cpu (due_nobody k cpu (due.Alarm n) is)) (nobody_own S l cpu (due_nobody l cpu (due.Alarm n) its))
        (λ A there.
        let none = none_there A k P C cpu n there c is out in
        let told_k = ap (λ (o : Option Event). option_map (unfound A) (option_map unnumbered_event o)) (event_told k cpu ring_k (due_answers k cpu (due.Alarm n) is)) in
        let told_l = ap (λ (o : Option Event). option_map (unfound A) (option_map unnumbered_event o)) (event_told l cpu ring_l (due_answers l cpu (due.Alarm n) its)) in
        told_l ∙ ap (λ (e : Event). Some e) (unfound_ring A l cpu n none ∙ sym (unfound_ring A k cpu n none)) ∙ sym told_k)

    -- both have as many budgets, if the side creates
    long : AreMaking (run (boot a) x) (run (boot b) y) (Of S) (Of P) → length (run (boot b) y).budgets ≡ length (run (boot a) x).budgets
    long making =
        same_length is_some is_sc l.budgets l.objects also.kept.tables.budgets ∙ making.alone.objects ∙ sym (same_length is_some is_sc k.budgets k.objects sound.kept.tables.budgets)

    acts_ : (r : Rank) → chosen.rank ≡ Some r → due_on (run (boot a) x).times cpu ≡ None → HomeTurn allowed (run (boot a) x) (run (boot b) y) S P C cpu
    acts_ r is calm =
        let pays = chosen.pays r is in
        let one : next_to_act k cpu ≡ Some (stamped k r) = acts_next k cpu (stamped k r) (chosen.first ∙ ap (option_map (stamped k)) is) calm in
        let other : next_to_act l cpu ≡ Some (stamped l r) = acts_next l cpu (stamped l r) (chosen.second ∙ ap (option_map (stamped l)) is) (due_so ∙ calm) in
        let own : own_turn S k cpu ≡ Some (r.actor, r.sc) = own_chosen allowed.creates a x S P T cpu (stamped k r) first pays.2 one in
        let theirs : own_turn S l cpu ≡ Some (r.actor, r.sc) = own_chosen allowed.creates b y S P U cpu (stamped l r) second pays.2 other in
        let its = own_is S k cpu r.actor r.sc own in
        let actor = actor_there a x cpu (stamped k r) one in
        let clock_so : HasSameClock k l r.actor = clock_same k l (Of P) (Of C) (processor_of k r.actor) timed (ap (λ (o : Option Object). C (processor_in o)) actor.object ∙ c) in
        let working = works r.actor r.sc own in
        let within : is_giving (context k r.actor).state ≡ true → IsGivingWithin k (Of S) r.actor = λ giving. apart_gives allowed.creates a x S P T cpu r.actor r.sc first own (working.gives giving) in
        let again = works_too (Unit {0}) (RevokesNothing k (Of S)) (RevokesNothing l (Of S)) (allowed.revokes ≡ true) (allowed.creates ≡ true) k l (Of S) (Of P) two r.actor pays.2 its.of (revokes_second k l S P alike also side_too) working in
        let within_too : is_giving (context l r.actor).state ≡ true → IsGivingWithin l (Of S) r.actor = λ giving. apart_gives allowed.creates b y S P U cpu r.actor r.sc second theirs (again.gives giving) in
        let state : (context l r.actor).state ≡ (context k r.actor).state = ap (λ (x : EcState). x.state) (context_same k l (Of S) (Of P) two r.actor pays.2 its.of) in
        let at_work : IsAtWork (HasSameClock k l r.actor) (AreGivingWithin k l (Of S) r.actor) (AreRevokingWithin k l (Of S)) (AreCreatingAlone k l (Of S) (Of P)) k r.actor =
        work_as (Unit {0}) (HasSameClock k l r.actor) (RevokesNothing k (Of S)) (AreGivingWithin k l (Of S) r.actor) (allowed.revokes ≡ true) (AreRevokingWithin k l (Of S)) (allowed.creates ≡ true) (AreCreatingAlone k l (Of S) (Of P)) k r.actor (λ none. clock_so)
        (λ giving asked. record { first = within giving; second = within_too (ap is_giving state ∙ giving) }) together.within together.alone working in
        let pair = own_of k l S P cpu r.actor r.sc twins own at_work in
        let same = decided k l S P cpu r.actor r.sc twins own at_work in
        let after_alike = own_alike k l S P cpu cpu r.actor r.sc twins own theirs at_work in
        let first_turned = own_turned S k cpu r.actor r.sc its in
        let second_turned = own_turned S l cpu r.actor r.sc (own_is S l cpu r.actor r.sc theirs) in
        record {
          alike = after_alike;
          timed = record {
            timed =
                subst (λ (s : KernelState). AreTimed s (after l cpu) (Of P) (Of C)) (sym first_turned)
                (subst (λ (s : KernelState). AreTimed (turned k cpu (by_deed k r.actor r.sc (deed k r.actor) (is_stirred k r.actor (deed k r.actor)))) s (Of P) (Of C)) (sym second_turned)
                (own_timed k l (Of P) (Of C) cpu r.actor r.sc (deed k r.actor) (deed l r.actor) (is_stirred k r.actor (deed k r.actor)) (is_stirred l r.actor (deed l r.actor))
                (same_made (HasSameClock k l r.actor) (AreMaking k l (Of S) (Of P)) k l (Of S) (Of P) (deed k r.actor) (deed l r.actor) pair)
                (λ some. long (made_creating (HasSameClock k l r.actor) (AreMaking k l (Of S) (Of P)) k (Of S) (Of P) (deed k r.actor) (first_own (HasSameClock k l r.actor) (AreMaking k l (Of S) (Of P)) k l (Of S) (Of P) (deed k r.actor) (deed l r.actor) pair) some))
                timed c pays.0
                (object_so (after k cpu) (after l cpu) _ _ (Of S) (Of P) r.sc after_alike first_turned second_turned pays.0) pays.1 (stamps_below a x) (stamps_below b y)));
            within = λ yes. record {
              alike = own_derived k l S P cpu cpu r.actor r.sc twins own theirs at_work (together.within yes).alike;
              first = apart_own_derives (Unit {0}) allowed.revokes allowed.creates a x S P T cpu r.actor r.sc first own working (λ it. (together.within it).first) yes;
              second = apart_own_derives (Unit {0}) allowed.revokes allowed.creates b y S P U cpu r.actor r.sc second theirs again (λ it. (together.within it).second) yes;
            };
            alone = λ yes. own_numbers k l S P cpu cpu r.actor r.sc twins own theirs at_work (together.alone yes);
          };
          deeds =
              ap (λ (o : Option (ℕ × ℕ)). option_map (λ (p : ℕ × ℕ). (p.0, unnumbered (deed l p.0))) o) theirs ∙ ap (λ (d : Deed). Some (r.actor, d)) same
              ∙ sym (ap (λ (o : Option (ℕ × ℕ)). option_map (λ (p : ℕ × ℕ). (p.0, unnumbered (deed k p.0))) o) own);
          bytes = ap (gain_for l cpu) theirs ∙ own_gains k l S P cpu cpu r.actor r.sc twins own theirs at_work ∙ sym (ap (gain_for k cpu) own);
          event = λ A rings.
              ap (option_map (unfound A))
              (ap (option_map unnumbered_event) (chosen_told l cpu (stamped l r) other) ∙ ap (λ (e : Event). Some e) (same_event cpu r.sc r.actor (deed k r.actor) (deed l r.actor) same)
              ∙ sym (ap (option_map unnumbered_event) (chosen_told k cpu (stamped k r) one)));
          works = λ ec sc its_own.
              let both = same_pair r.actor r.sc ec sc (sym theirs ∙ its_own) in
              subst (λ (n : ℕ). IsAtWork (Unit {0}) (RevokesNothing l (Of S)) (allowed.revokes ≡ true) (allowed.creates ≡ true) l n) both again;
        }

    by_moment : (o : Option ℕ) → next_moment (run (boot a) x).times cpu ≡ o → due_on (run (boot a) x).times cpu ≡ None → choice (run (boot a) x) cpu ≡ None → choice (run (boot b) y) cpu ≡ None →
        HomeTurn allowed (run (boot a) x) (run (boot b) y) S P C cpu
    by_moment None quiet calm none nothing =
        so k l (idle_stays k cpu none quiet) (idle_stays l cpu nothing (moment_so ∙ quiet)) alike timed refl refl refl refl (nobody_own S k cpu (idle_none k cpu none)) (nobody_own S l cpu (idle_none l cpu nothing))
        (λ A rings. ap (λ (o : Option Event). option_map (unfound A) (option_map unnumbered_event o)) (none_told l cpu nothing (moment_so ∙ quiet) ∙ sym (none_told k cpu none quiet)))
    by_moment (Some moment) comes_ calm none nothing =
        let some : IsSome (next_moment k.times cpu) = subst IsSome (sym comes_) refl in
        passes Ticks (calm, none, some) tt (tick_turn k cpu calm none some) (tick_turn l cpu (due_so ∙ calm) nothing (subst IsSome (sym moment_so) some)) (idle_none k cpu none) (idle_none l cpu nothing)
        (tick_answers k cpu calm none some) (tick_answers l cpu (due_so ∙ calm) nothing (subst IsSome (sym moment_so) some))

    by_rank : (o : Option Rank) → chosen.rank ≡ o → due_on (run (boot a) x).times cpu ≡ None → HomeTurn allowed (run (boot a) x) (run (boot b) y) S P C cpu
    by_rank (Some r) is calm = acts_ r is calm
    by_rank None is calm =
        by_moment (next_moment k.times cpu) refl calm (chosen.first ∙ ap (option_map (stamped k)) is) (chosen.second ∙ ap (option_map (stamped l)) is)

    falls : (what : Due) → due_on (run (boot a) x).times cpu ≡ Some what → IsWithin (run (boot a) x) (Of P) (Falls what) → HomeTurn allowed (run (boot a) x) (run (boot b) y) S P C cpu
    falls what is its =
        passes (Falls what) is its (due_turn k cpu what is) (due_turn l cpu what (due_so ∙ is)) (due_nobody k cpu what is) (due_nobody l cpu what (due_so ∙ is))
        (due_answers k cpu what is) (due_answers l cpu what (due_so ∙ is))

    by_place : (n : ℕ) → due_on (run (boot a) x).times cpu ≡ Some (due.Alarm n) → (t : Bool) → P (alarm_sm (slice_get (run (boot a) x).times.alarms n)) ≡ t → HomeTurn allowed (run (boot a) x) (run (boot b) y) S P C cpu
    by_place n is true its = falls (due.Alarm n) is its
    by_place n is false out = rings n is out

    by_due : (o : Option Due) → due_on (run (boot a) x).times cpu ≡ o → HomeTurn allowed (run (boot a) x) (run (boot b) y) S P C cpu
    by_due (Some (due.Alarm n)) is = by_place n is (P (alarm_sm (slice_get k.times.alarms n))) refl
    by_due (Some (due.Deadline ec)) is = falls (due.Deadline ec) is tt
    by_due None is = by_rank chosen.rank refl is
