-- Along turns the condition stays true, so that each turn of others leaves the side alone.
use Rattle.std.proofs.Common.{◌≡◌, ℕ, ◌⊎◌, suc, List, [], ◌∷◌, ◌++◌, length, refl, sym, ap, ◌∙◌, subst, inl, inr, arith}
use Rattle.std.specs.Prelude.{Bool, true, false, Contains, IsSome, slice_get, option_map, option_and_then, Option, Some, None}
use Rattle.std.specs.List.{find}
use Rattle.std.proofs.lemmas.Option.{same_Some, slice_get_within}
use Rattle.nova_objects.specs.declared.object.EcKind.{EcKind}
use Rattle.nova_objects.specs.declared.object.Object.{Object}
use Rattle.nova_objects.specs.declared.object.Object.TheVariants.{Pd, Ec, Sc, Pt, Sm}
use Rattle.nova_guest.specs.declared.page.Page.{Page}
use Rattle.nova_range.specs.Rights.{write_right}
use Rattle.nova_range.specs.declared.range.Kind.{Kind}
use Rattle.nova_range.specs.declared.range.Kind.TheVariants.{Mem}
use Rattle.nova_model.specs.Boot.{Scenario, boot}
use Rattle.nova_model.specs.Choice.{Candidate, next_to_act}
use Rattle.nova_model.specs.Delegations.{Delegations, covers, reach, with_id}
use Rattle.nova_model.specs.Forest.{IsForest}
use Rattle.nova_model.specs.Lines.{line}
use Rattle.nova_model.specs.Runs.{after, run}
use Rattle.nova_model.specs.State.{KernelState, deadline_of, pd_of}
use Rattle.nova_model.specs.Times.{rung_once}
use Rattle.nova_model.specs.declared.delegation.Derivation.{Derivation}
use Rattle.nova_model.specs.declared.times.Alarm.{Alarm}
use Rattle.nova_model.specs.declared.times.AlarmState.{AlarmState}
use Rattle.nova_model.specs.declared.times.Due.{Due}
use Rattle.law_forest.specs.Made.{IsFirstCapability}
use Rattle.law_forest.specs.Effects.{Passing}
use Rattle.law_forest.specs.Turns.{Acts as Chosen, Idles, IsPassing, Passes, Takes, passing, turned}
use Rattle.law_forest.specs.Within.{line_from}
use Rattle.law_forest.proofs.Changes.{reached_change}
use Rattle.law_forest.proofs.Lines.{line_is, member_found}
use Rattle.law_forest.proofs.Members.{IsIn, contains_from_in, in_from_contains}
use Rattle.law_forest.proofs.Turning.{comes}
use Rattle.law_turns.proofs.Setting.{get_joined}
use Rattle.law_turns.proofs.TablesFit.{boot_run_fits}
use Rattle.law_isolation.specs.Sound.{IsSound}
use Rattle.law_isolation.proofs.Runs.{reached_sound, turn_sound}
use Rattle.law_origins.specs.Giving.{Acts}
use Rattle.law_origins.proofs.Actors.{object_stays}
use Rattle.law_integrity.specs.Confined.{Holds, JoinsSet, IsMember, IsOwned, Of, Reach, more}
use Rattle.law_integrity.specs.Rights.{GivesTo}
use Rattle.law_integrity.specs.Integrity.{ByActor as ActsRightly, AlarmByTime, Creates, Gives, GrowsByRight, Idles as IsIdleTurn, IsAuthorised, IsByTime, Keeps, Passes as PassesBy, Rings, Takes as TakesLeaf}
use Rattle.law_integrity.proofs.Apart.{apart_along}
use Rattle.law_integrity.proofs.Authorised.{authorised, authorised_by}
use Rattle.law_integrity.proofs.Confined.{reach_along}
use Rattle.law_integrity.proofs.Confining.{acting_one, any_held, gives_in, held_none, member_pd, newest_object, newest_owned, object_kept}
use Rattle.law_integrity.proofs.Homes.{reached_homed}
use Rattle.law_integrity.proofs.Leaving.{flipped, leaves_other}
use Rattle.law_integrity.proofs.Passing.{coming, due_in, turned_by_time}
use Rattle.law_integrity.proofs.Resting.{IsMadeNow, acts_in, holds_made, second_after}
use Rattle.law_flow.specs.Flow.{AreAlike, DerivesWithin, held_at, IsLeftAlone, IsPartitioned, IsSide, IsTimeless, if_own, own_turn}
use Rattle.law_flow.proofs.Doing.{Seen}
use Rattle.law_flow.proofs.Parts.{IsPart}
use Rattle.law_flow.proofs.Leaving.{others_leave, some_there}
use Rattle.law_flow.proofs.Others.{IsForeign, side_left, time_leaves, timeless_foreign}
use Rattle.law_flow.proofs.Seeing.{page_by, page_held}
use Rattle.law_flow.proofs.Turns.{alike_itself}
use Rattle.law_flow.proofs.Ungiven.{ungiven_derives}
use Rattle.law_flow.proofs.Sets.{apart_as, line_in, line_kept, parents_kept}

-- THE CONDITION AFTER A TURN

-- a part that the side gives to itself, of what it still holds
pub record IsGivenTo (k new : KernelState) (S : ℕ → Type 0) (d : Derivation) : Type 0 where
  pub part : IsPart k S d
  pub stays : IsIn new.delegations.list part.source

-- what a turn leaves of the side, whoever's it was
pub record GoesOn (k new : KernelState) (S P : ℕ → Type 0) : Type 0 where
  pub side : IsSide new S P
  pub gains : (d : Derivation) → Contains new.delegations.list d → S d.pd → Contains k.delegations.list d ⊎ IsGivenTo k new S d
  pub pages : (pd page : ℕ) (to : Page) → S pd → reach new.delegations.list pd page ≡ Some to → Seen k S to.frame

-- what its domains hold stays
pub kept_on : (k new : KernelState) (S P : ℕ → Type 0) → IsSide new S P → ((d : Derivation) → Contains new.delegations.list d → S d.pd → Contains k.delegations.list d) →
    ((kind : Kind) (pd place : ℕ) → S pd → held_at new kind pd place ≡ held_at k kind pd place) → GoesOn k new S P
kept_on k new S P side gains spaces = record {
  side = side;
  gains = λ d there mine. inl (gains d there mine);
  pages = λ pd page to mine leads. record { pd = pd; page = page; to = to; of = mine; leads = sym (pages pd page mine) ∙ leads; its = refl };
}
  where
    pages : (pd page : ℕ) → S pd → reach new.delegations.list pd page ≡ reach k.delegations.list pd page
    pages pd page mine =
        page_held page (find (covers Mem pd page) new.delegations.list) ∙ ap (option_map (page_by page)) (spaces Mem pd page mine)
        ∙ sym (page_held page (find (covers Mem pd page) k.delegations.list))

-- an alarm that is there was there, for the same semaphore
pub alarm_was : (s : Scenario) (before : List ℕ) (cpu n : ℕ) (a : AlarmState) → slice_get (after (run (boot s) before) cpu).times.alarms n ≡ Some a →
    (b : AlarmState) × (slice_get (run (boot s) before).times.alarms n ≡ Some b) × (b.alarm ≡ a.alarm)
alarm_was s before cpu n a at = by_turn (authorised s before cpu)
  where
    k : KernelState
    k = run (boot s) before

    by_turn : IsAuthorised (run (boot s) before) (after (run (boot s) before) cpu) cpu →
        (b : AlarmState) × (slice_get (run (boot s) before).times.alarms n ≡ Some b) × (b.alarm ≡ a.alarm)
    by_turn (IsIdleTurn none quiet same) = (a, sym (ap (λ (l : KernelState). slice_get l.times.alarms n) same) ∙ at, refl)
    by_turn (ActsRightly ec sc turn right) = (a, sym (ap (λ (l : List AlarmState). slice_get l n) right.alarms) ∙ at, refl)
    by_turn (PassesBy what is by) = elim (by.alarms n) [
      | inl same ↦ (a, sym same ∙ at, refl)
      | inr rings ↦ by_ring what rings
    ]
      where
        by_ring : (what : Option Due) → AlarmByTime what n (slice_get (run (boot s) before).times.alarms n) (slice_get (after (run (boot s) before) cpu).times.alarms n) →
            (b : AlarmState) × (slice_get (run (boot s) before).times.alarms n ≡ Some b) × (b.alarm ≡ a.alarm)
        by_ring what (Rings is b old new) =
            let same : rung_once b ≡ a = same_Some _ a (sym new ∙ at) in (b, old, ap (λ (c : AlarmState). c.alarm) same)

-- what goes on so, of a turn of the processor, keeps the condition, with the domains that others made
pub next_partitioned : (s : Scenario) (before : List ℕ) (S P : ℕ → Bool) (T : ℕ → Type 0) (cpu : ℕ) → IsPartitioned (run (boot s) before) (Of S) T (Of P) →
    GoesOn (run (boot s) before) (after (run (boot s) before) cpu) (Of S) (Of P) → ((n : ℕ) → JoinsSet (run (boot s) before) (Of S) cpu n → ⊥) →
    IsPartitioned (after (run (boot s) before) cpu) (Of S) (more (run (boot s) before) T cpu) (Of P)
next_partitioned s before S P T cpu c on none_made = record {
  apart = apart_as new (more k (Of S) cpu) (Of S) (more k T cpu) (record { to = λ n m. unmade n m; from = λ n m. inl m }) (apart_along s before (cpu ∷ []) (Of S) T c.apart);
  side = on.side;
  guarded = record {
    there = λ n p. subst IsSome (sym (stays n p)) (c.guarded.there n p);
    owned = λ n p. subst (IsOwned new (Of S) n) (sym (stays n p)) (owned_kept n (slice_get k.objects n) (c.guarded.owned n p));
    semaphores = λ n p is h. held n p is (holds_made k T cpu 0 n (second_after s before (Of S) T cpu c.apart.separate) (reached_homed s before) (held_none h));
    lines = λ d a there mine above t. lines d a there mine above t;
    memory = λ pd page to mine leads r.
        let seen = on.pages pd page to mine leads in
        c.guarded.memory seen.pd seen.page seen.to seen.of seen.leads
        (subst (Reach k T write_right) (sym seen.its) (reach_along s before (cpu ∷ []) T (Of S) write_right to.frame (flipped k (Of S) T c.apart.separate) r));
  };
}
  where
    k : KernelState
    k = run (boot s) before

    new : KernelState
    new = after (run (boot s) before) cpu

    sound : IsSound (run (boot s) before)
    sound = reached_sound s before

    unmade : (n : ℕ) → more (run (boot s) before) (Of S) cpu n → S n ≡ true
    unmade n (inl m) = m
    unmade n (inr made) = absurd (none_made n made)

    stays : (n : ℕ) → P n ≡ true → slice_get (after (run (boot s) before) cpu).objects n ≡ slice_get (run (boot s) before).objects n
    stays n p = let o = some_there (slice_get k.objects n) (c.guarded.there n p) in object_stays k cpu n (slice_get_within k.objects n o.0 o.1)

    member_kept : (n : ℕ) → IsMember (run (boot s) before) (Of S) n → IsMember (after (run (boot s) before) cpu) (Of S) n
    member_kept n m = record { domain = m.domain; cpu = m.cpu; kind = m.kind; event = m.event; object = object_kept k cpu n (Ec m.domain m.cpu m.kind m.event) m.object; of = m.of }

    owned_kept : (n : ℕ) (o : Option Object) → IsOwned (run (boot s) before) (Of S) n o → IsOwned (after (run (boot s) before) cpu) (Of S) n o
    owned_kept n (Some Pd) m = m
    owned_kept n (Some (Ec pd its kind event)) m = m
    owned_kept n (Some (Sc donor its priority quantum)) m = member_kept donor m
    owned_kept n (Some (Pt handler mtd ip)) m = member_kept handler m
    owned_kept n (Some Sm) m = tt
    owned_kept n None m = tt

    held : (n : ℕ) → P n ≡ true → slice_get (after (run (boot s) before) cpu).objects n ≡ Some Sm → Holds (run (boot s) before) T 0 n ⊎ IsMadeNow (run (boot s) before) T cpu n → ⊥
    held n p is (inl h) = c.guarded.semaphores n p (sym (stays n p) ∙ is) (any_held h)
    held n p is (inr made) =
        let o = some_there (slice_get k.objects n) (c.guarded.there n p) in
        let below = slice_get_within k.objects n o.0 o.1 in let number = made.number in omega (arith, below, number)

    -- of what was there
    old_lines : (d a : Derivation) → IsIn (run (boot s) before).delegations.list d → S d.pd ≡ true → Contains (line (after (run (boot s) before) cpu).delegations.list d) a →
        more (run (boot s) before) T cpu a.pd → ⊥
    old_lines d a was mine above t = by_set t
      where
        same : line (after (run (boot s) before) cpu).delegations.list d ≡ line (run (boot s) before).delegations.list d
        same = line_kept k.delegations.list new.delegations.list (parents_kept k.delegations new.delegations sound.forest (reached_change s before cpu)) (suc d.id) d was

        before_it : Contains (line (run (boot s) before).delegations.list d) a
        before_it = subst (λ (l : List Derivation). Contains l a) same above

        its : slice_get (run (boot s) before).objects a.pd ≡ Some Pd
        its = (reached_homed s before).holders a (contains_from_in k.delegations.list a (line_in k.delegations.list (suc d.id) d a was (in_from_contains (line k.delegations.list d) a before_it)))

        by_set : more (run (boot s) before) T cpu a.pd → ⊥
        by_set (inl u) = c.guarded.lines d a (contains_from_in k.delegations.list d was) mine before_it u
        by_set (inr made) = let below = slice_get_within k.objects a.pd Pd its in let number = made.number in omega (arith, below, number)

    lines : (d a : Derivation) → Contains (after (run (boot s) before) cpu).delegations.list d → S d.pd ≡ true → Contains (line (after (run (boot s) before) cpu).delegations.list d) a →
        more (run (boot s) before) T cpu a.pd → ⊥
    lines d a there mine above t = elim (on.gains d there mine) [
      | inl old ↦ old_lines d a (in_from_contains k.delegations.list d old) mine above t
      | inr given ↦ by_line given (subst (λ (l : List Derivation). IsIn l a) (whole given) (in_from_contains (line new.delegations.list d) a above))
    ]
      where
        forest : IsForest (after (run (boot s) before) cpu).delegations
        forest = (turn_sound k cpu sound).forest

        whole : (g : IsGivenTo (run (boot s) before) (after (run (boot s) before) cpu) (Of S) d) →
            line (after (run (boot s) before) cpu).delegations.list d ≡ d ∷ line (after (run (boot s) before) cpu).delegations.list g.part.source
        whole g =
            line_is new.delegations d forest (in_from_contains new.delegations.list d there)
            ∙ ap (λ (o : Option Derivation). d ∷ line_from new.delegations.list o)
            (ap (option_and_then (with_id new.delegations.list)) g.part.parent ∙ member_found new.delegations.list g.part.source forest.rising g.stays)

        own : a.pd ≡ d.pd → more (run (boot s) before) T cpu a.pd → ⊥
        own same (inl u) = c.apart.separate.disjoint a.pd (ap S same ∙ mine) u
        own same (inr made) =
            let below = slice_get_within k.objects a.pd Pd (c.apart.separate.first.there a.pd (ap S same ∙ mine)) in let number = made.number in omega (arith, below, number)

        by_line : (g : IsGivenTo (run (boot s) before) (after (run (boot s) before) cpu) (Of S) d) → IsIn (d ∷ line (after (run (boot s) before) cpu).delegations.list g.part.source) a → ⊥
        by_line g (inl same) = own (ap (λ (x : Derivation). x.pd) (sym same)) t
        by_line g (inr further) = old_lines g.part.source a g.part.there g.part.of (contains_from_in (line new.delegations.list g.part.source) a further) t

-- A TURN OF OTHERS

-- one of the side's that acts has its own turn
pub own_from : (S : ℕ → Bool) (k : KernelState) (cpu ec : ℕ) → Acts k cpu ec → S (pd_of k ec) ≡ true → own_turn S k cpu ≡ None → ⊥
own_from S k cpu ec acts_ mine none = by_next (next_to_act k cpu) refl acts_
  where
    by_test : (c : Candidate) (t : Bool) → t ≡ true → if_own t c ≡ None → ⊥
    by_test c true is h = cc
    by_test c false is h = cc

    by_next : (o : Option Candidate) → next_to_act k cpu ≡ o → option_map (λ (c : Candidate). c.actor) o ≡ Some ec → ⊥
    by_next None is h = cc
    by_next (Some c) is h =
        let actor : c.actor ≡ ec = same_Some c.actor ec h in
        by_test c (S (pd_of k c.actor)) (ap (λ (n : ℕ). S (pd_of k n)) actor ∙ mine)
        (ap (λ (o : Option Candidate). option_and_then (λ c. if_own (S (pd_of k c.actor)) c) o) (sym is) ∙ none)

pub none_made_by : (S : ℕ → Bool) (k : KernelState) (cpu : ℕ) → own_turn S k cpu ≡ None → (n : ℕ) → JoinsSet k (Of S) cpu n → ⊥
none_made_by S k cpu none n made = own_from S k cpu made.maker made.acts (member_pd k (Of S) made.maker made.of) none

-- what comes by itself is none of a side's without deadlines and alarms
pub foreign_so : (k : KernelState) (P : ℕ → Type 0) (cpu : ℕ) → IsTimeless k P → (p : Passing) → IsPassing k cpu p → IsForeign k P (due_in p)
foreign_so k P cpu timeless p due = timeless_foreign k P cpu (due_in p) timeless (coming k cpu p due)

pub timeless_next : (s : Scenario) (before : List ℕ) (P : ℕ → Type 0) (cpu : ℕ) → IsTimeless (run (boot s) before) P → ((n : ℕ) → P n → deadline_of (after (run (boot s) before) cpu).times n ≡ None) →
    IsTimeless (after (run (boot s) before) cpu) P
timeless_next s before P cpu timeless none = record {
  alarms = λ n a at p. let was = alarm_was s before cpu n a at in timeless.alarms n was.0 was.1 (subst (λ (x : Alarm). P x.sm) (sym was.2) p);
  deadlines = none;
}

-- the execution contexts of the side's domains are those that were there
members_left : (s : Scenario) (before : List ℕ) (S P : ℕ → Bool) (T : ℕ → Type 0) (cpu ec : ℕ) → IsPartitioned (run (boot s) before) (Of S) T (Of P) → Acts (run (boot s) before) cpu ec →
    IsMember (run (boot s) before) T ec → (n pd its : ℕ) (kind : EcKind) (event : ℕ) → slice_get (after (run (boot s) before) cpu).objects n ≡ Some (Ec pd its kind event) → S pd ≡ true → P n ≡ true
members_left s before S P T cpu ec c acts_ mine n pd its kind event is s_pd = by_grows (authorised_by s before cpu ec acts_).2.grows
  where
    k : KernelState
    k = run (boot s) before

    old : slice_get (run (boot s) before).objects n ≡ Some (Ec pd its kind event) → P n ≡ true
    old at = c.side.members n pd its kind event at s_pd

    by_owned : more (run (boot s) before) T cpu pd → P n ≡ true
    by_owned (inl t) = absurd (c.apart.separate.disjoint pd s_pd t)
    by_owned (inr made) = absurd (let below = slice_get_within k.objects pd Pd (c.apart.separate.first.there pd s_pd) in let number = made.number in omega (arith, below, number))

    by_place : (o : Object) (d : Derivation) → IsFirstCapability (run (boot s) before) ec o d → (after (run (boot s) before) cpu).objects ≡ (run (boot s) before).objects ++ o ∷ [] →
        (slice_get (run (boot s) before).objects n ≡ Some (Ec pd its kind event)) ⊎ ((n ≡ length (run (boot s) before).objects) × (o ≡ Ec pd its kind event)) → P n ≡ true
    by_place o d first joins (inl at) = old at
    by_place o d first joins (inr new) =
        let owned = newest_owned k T cpu ec d o c.apart.separate.second acts_ mine first (newest_object k cpu o joins) in
        by_owned (subst (λ (x : Object). IsOwned (after k cpu) (more k T cpu) (length k.objects) (Some x)) new.1 owned)

    same : (after (run (boot s) before) cpu).objects ≡ (run (boot s) before).objects → P n ≡ true
    same objects = old (sym (ap (λ (os : List Object). slice_get os n) objects) ∙ is)

    by_grows : GrowsByRight (run (boot s) before) (after (run (boot s) before) cpu) ec → P n ≡ true
    by_grows (Keeps objects delegations) = same objects
    by_grows (Creates object capability first objects delegations) =
        by_place object capability first objects (get_joined k.objects object n (Ec pd its kind event) (sym (ap (λ (os : List Object). slice_get os n) objects) ∙ is))
    by_grows (Gives child source has edge_ within shared given gives objects delegations) = same objects
    by_grows (TakesLeaf leaf may objects delegations) = same objects

pub record OthersTurn (k new : KernelState) (S P : ℕ → Type 0) : Type 0 where
  pub same : AreAlike k new S P
  pub on : GoesOn k new S P

pub others_turn : (s : Scenario) (before : List ℕ) (S P : ℕ → Bool) (T : ℕ → Type 0) (cpu : ℕ) → IsPartitioned (run (boot s) before) (Of S) T (Of P) → own_turn S (run (boot s) before) cpu ≡ None →
    ((p : Passing) → IsPassing (run (boot s) before) cpu p → IsForeign (run (boot s) before) (Of P) (due_in p)) →
    OthersTurn (run (boot s) before) (after (run (boot s) before) cpu) (Of S) (Of P)
others_turn s before S P T cpu c none foreign = elim (comes (run (boot s) before) cpu) [
  | Idles nobody quiet same answer ↦ subst (λ (l : KernelState). OthersTurn (run (boot s) before) l (Of S) (Of P)) (sym same) still
  | Takes t e is state answer ↦ elim is [
    | Chosen d chosen its event ↦ by_actor d.actor (ap (option_map (λ (d : Candidate). d.actor)) chosen)
    | Passes p due its event ↦ by_time p due (state ∙ ap (turned (run (boot s) before) cpu) its)
  ]
]
  where
    k : KernelState
    k = run (boot s) before

    still : OthersTurn (run (boot s) before) (run (boot s) before) (Of S) (Of P)
    still = record {
      same = alike_itself k S P;
      on = kept_on k k (Of S) (Of P) c.side (λ d there mine. there) (λ kind pd place mine. refl);
    }

    from_alike : (new : KernelState) → AreAlike (run (boot s) before) new (Of S) (Of P) → ((d : Derivation) → Contains new.delegations.list d → S d.pd ≡ true → Contains (run (boot s) before).delegations.list d) →
        ((n pd its : ℕ) (kind : EcKind) (event : ℕ) → slice_get new.objects n ≡ Some (Ec pd its kind event) → S pd ≡ true → P n ≡ true) → OthersTurn (run (boot s) before) new (Of S) (Of P)
    from_alike new a gains members = record {
      same = a;
      on = kept_on k new (Of S) (Of P) (side_left k new (Of S) (Of P) a c.side gains members) gains a.spaces;
    }

    by_member : (ec : ℕ) → Acts (run (boot s) before) cpu ec → IsMember (run (boot s) before) (Of S) ec ⊎ IsMember (run (boot s) before) T ec →
        OthersTurn (run (boot s) before) (after (run (boot s) before) cpu) (Of S) (Of P)
    by_member ec acts_ (inl m) = absurd (own_from S k cpu ec acts_ (member_pd k (Of S) ec m) none)
    by_member ec acts_ (inr m) =
        from_alike (after k cpu) (others_leave s before (Of S) T (Of P) cpu ec c.apart c.guarded acts_ m)
        (leaves_other s before (Of S) T cpu ec c.apart.separate acts_ m).gains (members_left s before S P T cpu ec c acts_ m)

    by_actor : (ec : ℕ) → Acts (run (boot s) before) cpu ec → OthersTurn (run (boot s) before) (after (run (boot s) before) cpu) (Of S) (Of P)
    by_actor ec acts_ = by_member ec acts_ (acts_in k (Of S) T cpu ec c.apart.separate acts_)

    by_time : (p : Passing) → IsPassing (run (boot s) before) cpu p → after (run (boot s) before) cpu ≡ turned (run (boot s) before) cpu (passing (run (boot s) before) p) →
        OthersTurn (run (boot s) before) (after (run (boot s) before) cpu) (Of S) (Of P)
    by_time p due is =
        let t : IsByTime k (after k cpu) cpu (due_in p) = subst (λ (l : KernelState). IsByTime k l cpu (due_in p)) (sym is) (turned_by_time k cpu p due (boot_run_fits s before)) in
        from_alike (after k cpu) (time_leaves k (after k cpu) (Of S) (Of P) cpu (due_in p) (reached_sound s before) (turn_sound k cpu (reached_sound s before)) c.side c.guarded.there (foreign p due) t)
        (λ d there mine. subst (λ (f : Delegations). Contains f.list d) t.delegations there)
        (λ n pd its kind event at mine. c.side.members n pd its kind event (sym (ap (λ (os : List Object). slice_get os n) t.objects) ∙ at) mine)

pub others_leave_alone : (s : Scenario) (before : List ℕ) (S P : ℕ → Bool) (T : ℕ → Type 0) (cpu : ℕ) → IsPartitioned (run (boot s) before) (Of S) T (Of P) → IsTimeless (run (boot s) before) (Of P) → own_turn S (run (boot s) before) cpu ≡ None →
    IsLeftAlone (run (boot s) before) (Of S) (Of P) cpu
others_leave_alone s before S P T cpu c timeless none = let t = others_turn s before S P T cpu c none (foreign_so (run (boot s) before) (Of P) cpu timeless) in record { same = t.same; side = t.on.side }

-- and makes nothing of what the side holds
pub others_derive : (s : Scenario) (before : List ℕ) (S P : ℕ → Bool) (T : ℕ → Type 0) (cpu : ℕ) → IsPartitioned (run (boot s) before) (Of S) T (Of P) → own_turn S (run (boot s) before) cpu ≡ None → DerivesWithin (run (boot s) before) (Of S) →
    DerivesWithin (after (run (boot s) before) cpu) (Of S)
others_derive s before S P T cpu c none within = ungiven_derives s before S cpu gives_none within
  where
    k : KernelState
    k = run (boot s) before

    gives_none : (ec giver receiver : ℕ) → Acts (run (boot s) before) cpu ec → GivesTo (run (boot s) before) ec giver receiver → S giver ≡ true → ⊥
    gives_none ec giver receiver acts_ gives mine = elim (acts_in k (Of S) T cpu ec c.apart.separate acts_) [
      | inl m ↦ own_from S k cpu ec acts_ (member_pd k (Of S) ec m) none
      | inr m ↦
          c.apart.separate.disjoint giver mine
          (gives_in k T ec giver receiver (reached_sound s before) c.apart.separate.second (acting_one k cpu ec acts_) m gives).0
    ]
