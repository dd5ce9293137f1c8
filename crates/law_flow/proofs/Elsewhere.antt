-- A turn of a processor that isn't the side's, and of one that is: what is asked of the side holds after it.
use Rattle.std.proofs.Common.{arith, ◌≡◌, ◌⊎◌, ◌<◌, ℕ, ◌+◌, List, length, refl, sym, ap, ◌∙◌, subst, inl, inr}
use Rattle.std.specs.Prelude.{Bool, true, false, ◌≢◌, IsSome, is_some, nat_lt, slice_get, slice_set, option_map, option_and_then, Option, Some, None}
use Rattle.std.proofs.lemmas.Option.{same_Some, slice_get_within}
use Rattle.nova_objects.specs.declared.object.Object.{Object}
use Rattle.nova_objects.specs.declared.object.Object.TheVariants.{Pd, Ec, Sc, Pt, Sm}
use Rattle.nova_model.specs.Boot.{Scenario, boot}
use Rattle.nova_model.specs.Capabilities.{is_ec, is_sc}
use Rattle.nova_model.specs.Choice.{Candidate, next_to_act}
use Rattle.nova_model.specs.Edges.{acts, state_in}
use Rattle.nova_model.specs.Runs.{after, run}
use Rattle.nova_model.specs.State.{KernelState, budget_at, context_at, deadline_of, entry, pd_in, pd_of, processor_in, processor_of}
use Rattle.nova_model.specs.Times.{clock, rung_once}
use Rattle.nova_model.specs.declared.budget.Budget.{Budget}
use Rattle.nova_model.specs.declared.context.State.TheVariants.{Blocked}
use Rattle.nova_model.specs.declared.times.AlarmState.{AlarmState}
use Rattle.nova_model.specs.declared.times.Deadline.{Deadline}
use Rattle.nova_model.specs.declared.times.Due.TheVariants as due
use Rattle.law_forest.specs.Effects.{Passing}
use Rattle.law_forest.specs.Turns.{Acts as Chosen, Idles, IsPassing, Passes, Takes, passing, turned}
use Rattle.law_forest.proofs.Turning.{comes}
use Rattle.law_turns.proofs.Deadlines.{at_home}
use Rattle.law_turns.proofs.Serving.{state_there}
use Rattle.law_turns.specs.Budgets.{left_in}
use Rattle.law_turns.specs.Tables.{Refers}
use Rattle.law_turns.proofs.Setting.{entry_below, get_other}
use Rattle.law_turns.proofs.TablesFit.{boot_run_fits, chosen_acts}
use Rattle.law_turns.proofs.TablesKept.{context_is}
use Rattle.law_isolation.specs.Sound.{IsSound}
use Rattle.law_isolation.proofs.Runs.{reached_sound, turn_sound}
use Rattle.law_origins.specs.Giving.{Acts}
use Rattle.law_origins.proofs.Actors.{object_stays}
use Rattle.law_integrity.specs.Confined.{IsMember, IsOwned, Of, more}
use Rattle.law_integrity.specs.Integrity.{AlarmByTime, IsByTime, IsComing, Rings}
use Rattle.law_integrity.proofs.Authorised.{authorised_by}
use Rattle.law_integrity.proofs.Confining.{member_pd}
use Rattle.law_integrity.proofs.Edges.{at_index}
use Rattle.law_integrity.proofs.Entries.{same_length}
use Rattle.law_integrity.proofs.Leaving.{leaves_other}
use Rattle.law_integrity.proofs.Passing.{coming, due_in, turned_by_time}
use Rattle.law_integrity.proofs.Resting.{acts_in}
use Rattle.law_flow.specs.Flow.{AreAlike, DerivesWithin, IsAtWork, IsPartitioned, RevokesNothing, Allowed, domains, existing, if_own, own_turn}
use Rattle.law_flow.specs.Processors.{AreTimed, HasHome, IsAtHome, left_at}
use Rattle.law_flow.proofs.Apart.{IsKeptApart, MakesNothing, own_apart}
use Rattle.law_flow.proofs.Choosing.{still_acts}
use Rattle.law_flow.proofs.Existing.{AreLevel, in_domains, in_existing, is_below, none_domains, none_past, of_domains, of_existing, past_is, whole_alike}
use Rattle.law_flow.proofs.Guarding.{GoesOn, OthersTurn, kept_on, next_partitioned, none_made_by, others_turn, own_from}
use Rattle.law_flow.proofs.Home.{IsActorOf, actor_there}
use Rattle.law_flow.proofs.Keeping.{passed_side}
use Rattle.law_flow.proofs.Ringing.{not_both}
use Rattle.law_flow.proofs.Lasting.{others_last}
use Rattle.law_flow.proofs.Leaving.{some_there, table_same}
use Rattle.law_flow.proofs.Others.{IsForeign}
use Rattle.law_flow.proofs.Paying.{timed_by}
use Rattle.law_flow.proofs.Whole.{level_after, unmade}

-- WHAT IS THERE

-- a side that is at home with all of its numbers is so with those that are there
pub has_there : (k : KernelState) (S P C : ℕ → Bool) → HasHome k (Of S) (Of P) (Of C) → HasHome k (Of (domains k S)) (Of (existing k P)) (Of C)
has_there k S P C has = record {
  contexts = λ n pd cpu kind event is s. has.contexts n pd cpu kind event is (of_domains k S pd s);
  schedules = λ n donor cpu priority quantum is m.
      in_existing k P n (has.schedules n donor cpu priority quantum is (record { domain = m.domain; cpu = m.cpu; kind = m.kind; event = m.event; object = m.object; of = of_domains k S m.domain m.of }))
      (slice_get_within k.objects n (Sc donor cpu priority quantum) is);
  rings = λ n a at p. has.rings n a at (of_existing k P a.alarm.sm p);
}

home_there : (k : KernelState) (S P C : ℕ → Bool) → IsSound k → IsAtHome k (Of S) (Of P) (Of C) → IsAtHome k (Of (domains k S)) (Of (existing k P)) (Of C)
home_there k S P C sound home = record {
  has = has_there k S P C home.has;
  strangers = λ n pd cpu kind event is c. elim (home.strangers n pd cpu kind event is c) [
    | inl s ↦ inl (in_domains k S pd s (at_index (Refers k.objects) k.objects n (Ec pd cpu kind event) sound.kept.tables.refer is))
    | inr still ↦ inr still
  ];
}

-- the same times of what is there are the same times
whole_timed : (k new : KernelState) (P : ℕ → Bool) (C : ℕ → Type 0) → AreLevel k new → AreTimed k new (Of (existing k P)) C → AreTimed k new (Of P) C
whole_timed k new P C v t = record {
  clocks = t.clocks;
  alarms = t.alarms;
  same_alarms = t.same_alarms;
  left = λ n p. by_number n p (nat_lt n (length k.objects)) refl;
  order = λ m n p q there also. t.order m n (is_there m p there) (is_there n q also) there also;
}
  where
    long : length k.budgets ≡ length k.objects
    long = same_length is_some is_sc k.budgets k.objects v.first.kept.tables.budgets

    long_too : length new.budgets ≡ length k.objects
    long_too = same_length is_some is_sc new.budgets new.objects v.second.kept.tables.budgets ∙ ap (λ (os : List Object). length os) v.objects

    by_number : (n : ℕ) → P n ≡ true → (u : Bool) → nat_lt n (length k.objects) ≡ u → left_at new n ≡ left_at k n
    by_number n p true inside = t.left n (in_existing k P n p (is_below n (length k.objects) inside))
    by_number n p false past =
        let from = past_is n (length k.objects) past in
        ap (λ (o : Option (Option Budget)). left_in (entry o)) (none_past new.budgets n (omega (arith, from, long_too)) ∙ sym (none_past k.budgets n (omega (arith, from, long))))

    some_of : (n : ℕ) (o : Option Budget) → budget_at k n ≡ o → IsSome o → n < length k.objects
    some_of n None is h = absurd (cc)
    some_of n (Some b) is h = let below = entry_below k.budgets n b is in omega (arith, below, long)

    is_there : (n : ℕ) → P n ≡ true → IsSome (budget_at k n) → existing k P n ≡ true
    is_there n p there = in_existing k P n p (some_of n (budget_at k n) refl there)

-- A TURN ELSEWHERE

-- none of the side's acts there
none_away : (s : Scenario) (before : List ℕ) (S P C : ℕ → Bool) (cpu : ℕ) → IsAtHome (run (boot s) before) (Of S) (Of P) (Of C) → C cpu ≡ false → own_turn S (run (boot s) before) cpu ≡ None
none_away s before S P C cpu home out = by_next (next_to_act k cpu) refl
  where
    k : KernelState
    k = run (boot s) before

    by_test : (c : Candidate) → next_to_act (run (boot s) before) cpu ≡ Some c → (t : Bool) → S (pd_of (run (boot s) before) c.actor) ≡ t → if_own t c ≡ None
    by_test c is false mine = refl
    by_test c is true mine =
        let its = actor_there s before cpu c is in
        not_both (C cpu) (home.has.contexts c.actor its.pd cpu its.kind its.event its.object (sym (ap (λ (o : Option Object). S (pd_in o)) its.object) ∙ mine)) out

    by_next : (o : Option Candidate) → next_to_act (run (boot s) before) cpu ≡ o → option_and_then (λ c. if_own (S (pd_of (run (boot s) before) c.actor)) c) o ≡ None
    by_next None is = refl
    by_next (Some c) is = by_test c is (S (pd_of k c.actor)) refl

record OthersAway (k : KernelState) (S P C : ℕ → Bool) (cpu : ℕ) : Type 0 where
  own : own_turn S k cpu ≡ None
  turn : OthersTurn k (after k cpu) (Of S) (Of P)
  timed : AreTimed k (after k cpu) (Of P) (Of C)

others_away : (s : Scenario) (before : List ℕ) (S P C : ℕ → Bool) (T : ℕ → Type 0) (cpu : ℕ) → IsPartitioned (run (boot s) before) (Of S) T (Of P) →
    IsAtHome (run (boot s) before) (Of S) (Of P) (Of C) → C cpu ≡ false → OthersAway (run (boot s) before) S P C cpu
others_away s before S P C T cpu part home out = record { own = none; turn = others_turn s before S P T cpu part none foreign; timed = timed }
  where
    k : KernelState
    k = run (boot s) before

    sound : IsSound (run (boot s) before)
    sound = reached_sound s before

    none : own_turn S (run (boot s) before) cpu ≡ None
    none = none_away s before S P C cpu home out

    foreign : (p : Passing) → IsPassing (run (boot s) before) cpu p → IsForeign (run (boot s) before) (Of P) (due_in p)
    foreign p passes = record {
      alarms = λ n a is at mine.
          let late = subst (IsComing k cpu) is (coming k cpu p passes) in
          let same : late.entry.alarm ≡ a = same_Some late.entry.alarm a (sym late.entry.there ∙ at) in
          not_both (C cpu) (sym (ap C (sym (ap (λ (x : AlarmState). x.alarm.cpu) same) ∙ late.entry.its)) ∙ home.has.rings n a at mine) out;
      deadlines = λ n is mine. let late = subst (IsComing k cpu) is (coming k cpu p passes) in ours n late.entry.deadline late.entry.there late.entry.its mine;
    }
      where
        ours : (n : ℕ) (d : Deadline) → deadline_of (run (boot s) before).times n ≡ Some d → d.cpu ≡ cpu → P n ≡ true → ⊥
        ours n d at its mine = by_object (slice_get k.objects n) refl kind processor
          where
            there : is_some (context_at (run (boot s) before) n) ≡ true
            there = state_there (context_at k n) (Blocked d.sm) (sound.kept.deadlines n d at).blocked

            kind : option_map is_ec (slice_get (run (boot s) before).objects n) ≡ Some true
            kind = context_is k n there sound.kept.tables

            processor : processor_of (run (boot s) before) n ≡ cpu
            processor =
                let both : Some (processor_of k n) ≡ Some d.cpu = sym (at_home k n there sound.kept.tables) ∙ (sound.kept.deadlines n d at).processor in
                same_Some (processor_of k n) d.cpu both ∙ its

            by_object : (o : Option Object) → slice_get (run (boot s) before).objects n ≡ o → option_map is_ec o ≡ Some true → processor_in o ≡ cpu → ⊥
            by_object (Some (Ec pd on its_kind event)) is h same =
                not_both (C cpu) (ap C (sym same) ∙ home.has.contexts n pd on its_kind event is (subst (IsOwned k (Of S) n) is (part.guarded.owned n mine))) out
            by_object (Some Pd) is h same = absurd (cc)
            by_object (Some (Sc ec on priority quantum)) is h same = absurd (cc)
            by_object (Some (Pt ec mtd ip)) is h same = absurd (cc)
            by_object (Some Sm) is h same = absurd (cc)
            by_object None is h same = absurd (cc)

    -- a clock of the side's is none that goes on
    other_clock : (n : ℕ) → C n ≡ true → n ≢ cpu
    other_clock n c = λ same. absurd (not_both (C cpu) (sym (ap C same) ∙ c) out)

    clocks_so : (new : KernelState) → new.times.clocks ≡ slice_set (run (boot s) before).times.clocks cpu (clock (run (boot s) before).times cpu + 1) → (n : ℕ) → C n ≡ true →
        slice_get new.times.clocks n ≡ slice_get (run (boot s) before).times.clocks n
    clocks_so new is n c = ap (λ (l : List ℕ). slice_get l n) is ∙ get_other k.times.clocks cpu n (clock k.times cpu + 1) (other_clock n c)

    by_member : (ec : ℕ) → Acts (run (boot s) before) cpu ec → IsMember (run (boot s) before) (Of S) ec ⊎ IsMember (run (boot s) before) T ec →
        AreTimed (run (boot s) before) (after (run (boot s) before) cpu) (Of P) (Of C)
    by_member ec acts_ (inl m) = absurd (own_from S k cpu ec acts_ (member_pd k (Of S) ec m) none)
    by_member ec acts_ (inr m) =
        let by = authorised_by s before cpu ec acts_ in
        timed_by k (after k cpu) (Of P) (Of C) (clocks_so (after k cpu) by.2.clocks) (λ n a at c. ap (λ (l : List AlarmState). slice_get l n) by.2.alarms ∙ at)
        (λ n a at c. sym (ap (λ (l : List AlarmState). slice_get l n) by.2.alarms) ∙ at)
        (λ n p.
        let o = some_there (slice_get k.objects n) (part.guarded.there n p) in
        ap (λ (b : Option (Option Budget)). entry b)
        (table_same is_sc k.budgets (after k cpu).budgets k.objects (after k cpu).objects n o.0 sound.kept.tables.budgets (turn_sound k cpu sound).kept.tables.budgets o.1
        (object_stays k cpu n (slice_get_within k.objects n o.0 o.1) ∙ o.1) (budget ec acts_ m n p o.0 o.1)))
      where
        budget : (ec : ℕ) → Acts (run (boot s) before) cpu ec → IsMember (run (boot s) before) T ec → (n : ℕ) → P n ≡ true → (o : Object) → slice_get (run (boot s) before).objects n ≡ Some o → is_sc o ≡ true →
            entry (slice_get (after (run (boot s) before) cpu).budgets n) ≡ entry (slice_get (run (boot s) before).budgets n)
        budget ec acts_ m n p (Sc donor on priority quantum) is kind =
            (leaves_other s before (Of S) T cpu ec part.apart.separate acts_ m).budgets n donor on priority quantum is (subst (IsOwned k (Of S) n) is (part.guarded.owned n p))
        budget ec acts_ m n p Pd is kind = absurd (cc)
        budget ec acts_ m n p (Ec pd on its_kind event) is kind = absurd (cc)
        budget ec acts_ m n p (Pt handler mtd ip) is kind = absurd (cc)
        budget ec acts_ m n p Sm is kind = absurd (cc)

    by_time : (p : Passing) → IsPassing (run (boot s) before) cpu p → IsByTime (run (boot s) before) (after (run (boot s) before) cpu) cpu (due_in p) →
        AreTimed (run (boot s) before) (after (run (boot s) before) cpu) (Of P) (Of C)
    by_time p passes t =
        timed_by k (after k cpu) (Of P) (Of C) (clocks_so (after k cpu) t.clocks) (λ n a at c. forth n a at c (t.alarms n)) (λ n a at c. back n a at c (t.alarms n))
        (λ n q. ap (λ (bs : List (Option Budget)). entry (slice_get bs n)) t.budgets.budgets)
      where
        -- an alarm that rings is of this processor
        of_it : (n : ℕ) (b : AlarmState) → due_in p ≡ Some (due.Alarm n) → slice_get (run (boot s) before).times.alarms n ≡ Some b → b.alarm.cpu ≡ cpu
        of_it n b is old =
            let late = subst (IsComing k cpu) is (coming k cpu p passes) in
            let same : late.entry.alarm ≡ b = same_Some late.entry.alarm b (sym late.entry.there ∙ old) in
            sym (ap (λ (x : AlarmState). x.alarm.cpu) same) ∙ late.entry.its

        forth : (n : ℕ) (a : AlarmState) → slice_get (run (boot s) before).times.alarms n ≡ Some a → C a.alarm.cpu ≡ true →
            (slice_get (after (run (boot s) before) cpu).times.alarms n ≡ slice_get (run (boot s) before).times.alarms n)
            ⊎ AlarmByTime (due_in p) n (slice_get (run (boot s) before).times.alarms n) (slice_get (after (run (boot s) before) cpu).times.alarms n) →
            slice_get (after (run (boot s) before) cpu).times.alarms n ≡ Some a
        forth n a at c (inl same) = same ∙ at
        forth n a at c (inr (Rings is b old new)) = not_both (C cpu) (sym (ap C (of_it n a is at)) ∙ c) out

        back : (n : ℕ) (a : AlarmState) → slice_get (after (run (boot s) before) cpu).times.alarms n ≡ Some a → C a.alarm.cpu ≡ true →
            (slice_get (after (run (boot s) before) cpu).times.alarms n ≡ slice_get (run (boot s) before).times.alarms n)
            ⊎ AlarmByTime (due_in p) n (slice_get (run (boot s) before).times.alarms n) (slice_get (after (run (boot s) before) cpu).times.alarms n) →
            slice_get (run (boot s) before).times.alarms n ≡ Some a
        back n a at c (inl same) = sym same ∙ at
        back n a at c (inr (Rings is b old new)) =
            let same : rung_once b ≡ a = same_Some (rung_once b) a (sym new ∙ at) in
            not_both (C cpu) (sym (ap C (sym (ap (λ (x : AlarmState). x.alarm.cpu) same) ∙ of_it n b is old)) ∙ c) out

    timed : AreTimed (run (boot s) before) (after (run (boot s) before) cpu) (Of P) (Of C)
    timed = elim (comes (run (boot s) before) cpu) [
      | Idles nobody quiet same answer ↦
          subst (λ (l : KernelState). AreTimed (run (boot s) before) l (Of P) (Of C)) (sym same)
          (timed_by k k (Of P) (Of C) (λ n c. refl) (λ n a at c. at) (λ n a at c. at) (λ n p. refl))
      | Takes t e is state answer ↦ elim is [
        | Chosen d chosen its event ↦
            by_member d.actor (ap (option_map (λ (d : Candidate). d.actor)) chosen) (acts_in k (Of S) T cpu d.actor part.apart.separate (ap (option_map (λ (d : Candidate). d.actor)) chosen))
        | Passes p passes its event ↦
            by_time p passes (subst (λ (l : KernelState). IsByTime k l cpu (due_in p)) (sym (state ∙ ap (turned (run (boot s) before) cpu) its)) (turned_by_time k cpu p passes (boot_run_fits s before)))
      ]
    ]

-- and of one that may create
pub record AwayTurn (k : KernelState) (S P C : ℕ → Bool) (cpu : ℕ) : Type 0 where
  pub own : own_turn S k cpu ≡ None
  pub same : AreAlike k (after k cpu) (Of S) (Of P)
  pub timed : AreTimed k (after k cpu) (Of P) (Of C)

pub away_turn : (creates : Bool) (s : Scenario) (before : List ℕ) (S P C : ℕ → Bool) (T : ℕ → Type 0) (cpu : ℕ) → IsKeptApart creates (run (boot s) before) S P T →
    IsAtHome (run (boot s) before) (Of S) (Of P) (Of C) → (creates ≡ true → MakesNothing S (run (boot s) before) cpu) → C cpu ≡ false → AwayTurn (run (boot s) before) S P C cpu
away_turn false s before S P C T cpu part home nothing out = let away = others_away s before S P C T cpu part home out in record { own = away.own; same = away.turn.same; timed = away.timed }
away_turn true s before S P C T cpu part home nothing out =
    let k = run (boot s) before in
    let none = none_away s before S P C cpu home out in
    let level = level_after s before cpu (unmade k cpu (nothing refl none)) in
    let away = others_away s before (domains k S) (existing k P) C T cpu part.part (home_there k S P C (reached_sound s before) home) out in
    record { own = none; same = whole_alike k (after k cpu) S P level away.turn.same; timed = whole_timed k (after k cpu) P (Of C) level away.timed }

-- THE CONDITION AFTER A TURN OF A PROCESSOR OF THE SIDE'S

-- without a turn of the side's own nobody acts there
home_others : (s : Scenario) (before : List ℕ) (S P C : ℕ → Bool) (T : ℕ → Type 0) (cpu : ℕ) → IsPartitioned (run (boot s) before) (Of S) T (Of P) →
    IsAtHome (run (boot s) before) (Of S) (Of P) (Of C) → C cpu ≡ true → own_turn S (run (boot s) before) cpu ≡ None →
    GoesOn (run (boot s) before) (after (run (boot s) before) cpu) (Of S) (Of P)
home_others s before S P C T cpu part home c none = elim (comes (run (boot s) before) cpu) [
  | Idles nobody quiet same answer ↦ subst (λ (l : KernelState). GoesOn (run (boot s) before) l (Of S) (Of P)) (sym same) still
  | Takes t e is state answer ↦ elim is [
    | Chosen d chosen its event ↦ absurd (by_actor d chosen (actor_there s before cpu d chosen))
    | Passes p passes its event ↦ subst (λ (l : KernelState). GoesOn (run (boot s) before) l (Of S) (Of P)) (sym (state ∙ ap (turned (run (boot s) before) cpu) its)) (passed p)
  ]
]
  where
    k : KernelState
    k = run (boot s) before

    still : GoesOn (run (boot s) before) (run (boot s) before) (Of S) (Of P)
    still = kept_on k k (Of S) (Of P) part.side (λ d there mine. there) (λ kind pd place mine. refl)

    passed : (p : Passing) → GoesOn (run (boot s) before) (turned (run (boot s) before) cpu (passing (run (boot s) before) p)) (Of S) (Of P)
    passed p = kept_on k (turned k cpu (passing k p)) (Of S) (Of P) (passed_side k (Of S) (Of P) part.side cpu p) (λ d there mine. there) (λ kind pd place mine. refl)

    by_actor : (d : Candidate) → next_to_act (run (boot s) before) cpu ≡ Some d → IsActorOf (run (boot s) before) cpu d.actor → ⊥
    by_actor d chosen its = elim (home.strangers d.actor its.pd cpu its.kind its.event its.object c) [
      | inl mine ↦ own_from S k cpu d.actor (ap (option_map (λ (d : Candidate). d.actor)) chosen) (ap (λ (o : Option Object). S (pd_in o)) its.object ∙ mine) none
      | inr idle ↦ absurd (not_both (acts k.contexts d.actor) (chosen_acts k cpu d chosen) (still_acts k.contexts (state_in k.contexts d.actor) idle.state))
    ]

pub home_next : (allowed : Allowed) (s : Scenario) (before : List ℕ) (S P C : ℕ → Bool) (T : ℕ → Type 0) (cpu : ℕ) → IsKeptApart allowed.creates (run (boot s) before) S P T →
    IsAtHome (run (boot s) before) (Of S) (Of P) (Of C) → (allowed.creates ≡ true → MakesNothing S (run (boot s) before) cpu) → C cpu ≡ true →
    ((ec sc : ℕ) → own_turn S (run (boot s) before) cpu ≡ Some (ec, sc) → IsAtWork (Unit {0}) (RevokesNothing (run (boot s) before) (Of S)) (allowed.revokes ≡ true) (allowed.creates ≡ true) (run (boot s) before) ec) →
    (allowed.revokes ≡ true → DerivesWithin (run (boot s) before) (Of S)) → IsKeptApart allowed.creates (after (run (boot s) before) cpu) S P (more (run (boot s) before) T cpu)
home_next allowed s before S P C T cpu part home nothing c works within = by_own (own_turn S (run (boot s) before) cpu) refl
  where
    quiet : (creates : Bool) → IsKeptApart creates (run (boot s) before) S P T → (creates ≡ true → MakesNothing S (run (boot s) before) cpu) → own_turn S (run (boot s) before) cpu ≡ None →
        IsKeptApart creates (after (run (boot s) before) cpu) S P (more (run (boot s) before) T cpu)
    quiet false p n none = next_partitioned s before S P T cpu p (home_others s before S P C T cpu p home c none) (none_made_by S (run (boot s) before) cpu none)
    quiet true p n none =
        let k = run (boot s) before in
        others_last s before S P T cpu p none
        (home_others s before (domains k S) (existing k P) C T cpu p.part (home_there k S P C (reached_sound s before) home) c (none_domains k S cpu none)) (unmade k cpu (n refl none))

    by_own : (o : Option (ℕ × ℕ)) → own_turn S (run (boot s) before) cpu ≡ o → IsKeptApart allowed.creates (after (run (boot s) before) cpu) S P (more (run (boot s) before) T cpu)
    by_own None is = quiet allowed.creates part nothing is
    by_own (Some pair) is = own_apart (Unit {0}) allowed.revokes allowed.creates s before S P T cpu pair.0 pair.1 part is (works pair.0 pair.1 is) within

pub away_next : (creates : Bool) (s : Scenario) (before : List ℕ) (S P C : ℕ → Bool) (T : ℕ → Type 0) (cpu : ℕ) → IsKeptApart creates (run (boot s) before) S P T →
    IsAtHome (run (boot s) before) (Of S) (Of P) (Of C) → (creates ≡ true → MakesNothing S (run (boot s) before) cpu) → C cpu ≡ false → IsKeptApart creates (after (run (boot s) before) cpu) S P (more (run (boot s) before) T cpu)
away_next false s before S P C T cpu part home nothing out =
    let away = others_away s before S P C T cpu part home out in next_partitioned s before S P T cpu part away.turn.on (none_made_by S (run (boot s) before) cpu away.own)
away_next true s before S P C T cpu part home nothing out =
    let k = run (boot s) before in
    let none = none_away s before S P C cpu home out in
    others_last s before S P T cpu part none (others_away s before (domains k S) (existing k P) C T cpu part.part (home_there k S P C (reached_sound s before) home) out).turn.on (unmade k cpu (nothing refl none))
