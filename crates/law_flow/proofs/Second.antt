-- Where two runs have the same turns of the side, the second's are at work if the first's are, and they come to the same.
use Rattle.std.proofs.Common.{◌≡◌, ℕ, List, [], ◌∷◌, ◌++◌, length, refl, sym, ap, ◌∙◌, subst}
use Rattle.std.specs.Prelude.{if◌then◌else◌, Bool, true, false, filter, slice_get, Option, Some, None}
use Rattle.std.proofs.lemmas.Option.{same_Some}
use Rattle.nova_model.specs.Boot.{Scenario, boot}
use Rattle.nova_model.specs.Choice.{in_front}
use Rattle.nova_model.specs.Runs.{after, run}
use Rattle.nova_objects.specs.declared.object.EcKind.{EcKind}
use Rattle.nova_objects.specs.declared.object.Object.{Object}
use Rattle.nova_objects.specs.declared.object.Object.TheVariants.{Ec}
use Rattle.nova_model.specs.State.{KernelState}
use Rattle.law_isolation.proofs.Runs.{reached_sound, turn_sound}
use Rattle.law_origins.proofs.Lists.{run_append}
use Rattle.law_integrity.specs.Confined.{Of, more}
use Rattle.law_flow.specs.Processors.{AreOn, IsAtHome, IsDivided, StayOn}
use Rattle.law_flow.specs.Flow.{AreAlike, AreAlikeAlong, AreAtWork, AreAtWorkTimeless, AreCreatingAlone, AreDerivedAlike, AreLeftAlone, AreRevokingWithin, DerivesWithin, GivesWithin, IsAtWork, IsSide, OthersMakeNothing, RevokesNothing, Allowed, own_turn, schedule}
use Rattle.law_flow.proofs.Pairs.{never}
use Rattle.law_flow.proofs.Turns.{AreTwins, alike_flipped, alike_through, both, derived_left, left_derived, own_alike, own_derived, own_is, own_numbers, own_side, own_there, runs_alike, working_both}
use Rattle.law_flow.proofs.Apart.{IsKeptApart, MakesNothing, StandsApart, apart_gives, apart_side, left_along, others_stand, own_stands}
use Rattle.law_flow.proofs.Numbers.{left_numbers, numbers_left}
use Rattle.law_flow.proofs.Within.{revokes_second, works_too}
use Rattle.law_flow.proofs.Away.{GoesHome, IsReached, OwnWorks, gone_away, gone_home, home_at, together_first, together_second, turn_away}
use Rattle.law_flow.proofs.Elsewhere.{away_next, away_turn, home_next}
use Rattle.law_flow.proofs.Home.{AreTogether}
use Rattle.law_flow.proofs.Divided.{at_home_of, divided_next, others_make_nothing, stays_here}

-- the first goes on to its next own turn
record IsNext (allowed : Allowed) (l : KernelState) (S P : ℕ → Bool) (p : ℕ × ℕ) (rest : List (ℕ × ℕ)) : Type 0 where
  state : KernelState
  cpu : ℕ
  later : List ℕ
  own : own_turn S state cpu ≡ Some p
  works : IsAtWork ⊥ (RevokesNothing state (Of S)) (allowed.revokes ≡ true) (allowed.creates ≡ true) state p.0
  within : GivesWithin S state cpu
  derives : allowed.revokes ≡ true → DerivesWithin state (Of S)
  derived : allowed.revokes ≡ true → AreDerivedAlike state l (Of S)
  alone : allowed.creates ≡ true → AreCreatingAlone state l (Of S) (Of P)
  twins : AreTwins state l S P
  left : AreLeftAlone allowed.revokes S P (after state cpu) later
  works_later : AreAtWorkTimeless allowed S (after state cpu) later
  same : schedule S (after state cpu) later ≡ rest

next_own : (allowed : Allowed) (S P : ℕ → Bool) (ts : List ℕ) (k l : KernelState) (p : ℕ × ℕ) (rest : List (ℕ × ℕ)) → (allowed.revokes ≡ true → AreDerivedAlike k l (Of S)) → (allowed.creates ≡ true → AreCreatingAlone k l (Of S) (Of P)) →
    AreTwins k l S P → AreLeftAlone allowed.revokes S P k ts → AreAtWorkTimeless allowed S k ts → schedule S k ts ≡ p ∷ rest → IsNext allowed l S P p rest
next_own allowed S P [] k l p rest derived alone t left works same = absurd (cc)
next_own allowed S P (cpu ∷ ts) k l p rest derived alone t left works same =
    by_own (own_turn S k cpu) refl same (λ alike numbers next also. next_own allowed S P ts (after k cpu) l p rest alike numbers next left.3 works.1 also)
  where
    by_own : (o : Option (ℕ × ℕ)) → own_turn S k cpu ≡ o → in_front o (schedule S (after k cpu) ts) ≡ p ∷ rest →
        ((allowed.revokes ≡ true → AreDerivedAlike (after k cpu) l (Of S)) → (allowed.creates ≡ true → AreCreatingAlone (after k cpu) l (Of S) (Of P)) → AreTwins (after k cpu) l S P → schedule S (after k cpu) ts ≡ p ∷ rest → IsNext allowed l S P p rest) →
        IsNext allowed l S P p rest
    by_own None is also later =
        let quiet = left.0 is in
        later (λ yes. left_derived k l S P cpu t.first quiet.same (derived yes)) (λ yes. left_numbers k l S P cpu quiet.same (alone yes))
        (record { side = quiet.side; alike = alike_through (after k cpu) k l (Of S) (Of P) (alike_flipped k (after k cpu) (Of S) (Of P) quiet.same) t.alike; first = turn_sound k cpu t.first; second = t.second }) also
    by_own (Some q) is also later =
        let one : q ≡ p = cc in
        let tails : schedule S (after k cpu) ts ≡ rest = cc in
        let own : own_turn S k cpu ≡ Some p = is ∙ ap (λ (r : ℕ × ℕ). Some r) one in
        record {
          state = k;
          cpu = cpu;
          later = ts;
          own = own;
          works = works.0 p.0 p.1 own;
          within = left.1;
          derives = left.2;
          derived = derived;
          alone = alone;
          twins = t;
          left = left.3;
          works_later = works.1;
          same = tails;
        }

pub works_second : (allowed : Allowed) (b : Scenario) (since others : List ℕ) (S P : ℕ → Bool) (U : ℕ → Type 0) (k : KernelState) (ts : List ℕ) → StandsApart allowed (run (boot b) since) S P U →
    (allowed.creates ≡ true → OthersMakeNothing S (run (boot b) since) others) → (allowed.revokes ≡ true → AreDerivedAlike k (run (boot b) since) (Of S)) → (allowed.creates ≡ true → AreCreatingAlone k (run (boot b) since) (Of S) (Of P)) →
    AreTwins k (run (boot b) since) S P → AreLeftAlone allowed.revokes S P k ts → AreAtWorkTimeless allowed S k ts → schedule S k ts ≡ schedule S (run (boot b) since) others → AreAtWorkTimeless allowed S (run (boot b) since) others
works_second allowed b since [] S P U k ts c nothing derived alone t left works same = tt
works_second allowed b since (cpu ∷ us) S P U k ts c nothing derived alone t left works same =
    by_own (own_turn S l cpu) refl same (λ stands j vs.
    subst (λ (m : KernelState). (allowed.creates ≡ true → OthersMakeNothing S m us) → (allowed.revokes ≡ true → AreDerivedAlike j m (Of S)) → (allowed.creates ≡ true → AreCreatingAlone j m (Of S) (Of P)) → AreTwins j m S P →
    AreLeftAlone allowed.revokes S P j vs → AreAtWorkTimeless allowed S j vs → schedule S j vs ≡ schedule S m us → AreAtWorkTimeless allowed S m us) next
    (works_second allowed b (since ++ cpu ∷ []) us S P (more l U cpu) j vs (subst (λ (m : KernelState). StandsApart allowed m S P (more l U cpu)) (sym next) stands)) (λ yes. (nothing yes).1))
  where
    l : KernelState
    l = run (boot b) since

    next : run (boot b) (since ++ cpu ∷ []) ≡ after (run (boot b) since) cpu
    next = run_append (boot b) since (cpu ∷ [])

    side : IsSide (run (boot b) since) (Of S) (Of P)
    side = apart_side allowed.creates b since S P U c.apart

    by_own : (o : Option (ℕ × ℕ)) → own_turn S (run (boot b) since) cpu ≡ o → schedule S k ts ≡ in_front o (schedule S (after (run (boot b) since) cpu) us) →
        (StandsApart allowed (after (run (boot b) since) cpu) S P (more (run (boot b) since) U cpu) → (j : KernelState) (vs : List ℕ) → (allowed.revokes ≡ true → AreDerivedAlike j (after (run (boot b) since) cpu) (Of S)) →
        (allowed.creates ≡ true → AreCreatingAlone j (after (run (boot b) since) cpu) (Of S) (Of P)) → AreTwins j (after (run (boot b) since) cpu) S P → AreLeftAlone allowed.revokes S P j vs → AreAtWorkTimeless allowed S j vs →
        schedule S j vs ≡ schedule S (after (run (boot b) since) cpu) us → AreAtWorkTimeless allowed S (after (run (boot b) since) cpu) us) →
        AreAtWorkTimeless allowed S (run (boot b) since) (cpu ∷ us)
    by_own None is also later =
        let turn = others_stand allowed b since S P U cpu c is (λ yes. (nothing yes).0) in
        let quiet = turn.0.same in (
          λ ec sc own. absurd (cc),
          later turn.1 k ts (λ yes. derived_left k l S P cpu t.second quiet (derived yes)) (λ yes. numbers_left k l S P cpu quiet (alone yes))
              (record { side = t.side; alike = alike_through k l (after l cpu) (Of S) (Of P) t.alike quiet; first = t.first; second = turn_sound l cpu t.second }) left works also,
        )
    by_own (Some p) is also later =
        let n = next_own allowed S P ts k l p (schedule S (after l cpu) us) derived alone t left works also in
        let its = own_is S n.state n.cpu p.0 p.1 n.own in
        let there = own_there S n.state (Of P) n.cpu p.0 p.1 n.twins.first n.twins.side its in
        let mine : IsAtWork ⊥ (RevokesNothing l (Of S)) (allowed.revokes ≡ true) (allowed.creates ≡ true) l p.0 =
        works_too ⊥ (RevokesNothing n.state (Of S)) (RevokesNothing l (Of S)) (allowed.revokes ≡ true) (allowed.creates ≡ true) n.state l (Of S) (Of P) (both n.state l S P n.twins) p.0 there its.of
        (revokes_second n.state l S P n.twins.alike n.twins.second side) n.works in
        let timed =
        working_both (RevokesNothing n.state (Of S)) (allowed.revokes ≡ true) (allowed.creates ≡ true) n.state l S P p.0 n.twins there its.of n.works (n.within p.0 p.1 n.own)
        (λ giving. apart_gives allowed.creates b since S P U cpu p.0 p.1 c.apart is (mine.gives giving)) (λ yes. record { alike = n.derived yes; first = n.derives yes; second = c.derives yes }) n.alone in (
          λ ec sc own. subst (λ (q : ℕ × ℕ). IsAtWork ⊥ (RevokesNothing l (Of S)) (allowed.revokes ≡ true) (allowed.creates ≡ true) l q.0) (same_Some p (ec, sc) (sym is ∙ own)) mine,
          later (own_stands allowed b since S P U cpu p.0 p.1 c is mine) (after n.state n.cpu) n.later
              (λ yes. own_derived n.state l S P n.cpu cpu p.0 p.1 n.twins n.own is timed (n.derived yes)) (λ yes. own_numbers n.state l S P n.cpu cpu p.0 p.1 n.twins n.own is timed (n.alone yes))
              (record { side = own_side n.state l S P n.cpu p.0 p.1 n.twins n.own timed; alike = own_alike n.state l S P n.cpu cpu p.0 p.1 n.twins n.own is timed; first = turn_sound n.state n.cpu n.twins.first; second = turn_sound l cpu n.twins.second })
              n.left n.works_later n.same,
        )

-- what both come to
pub both_alike : (allowed : Allowed) (a b : Scenario) (before since turns others : List ℕ) (S P : ℕ → Bool) (T U : ℕ → Type 0) → StandsApart allowed (run (boot a) before) S P T → StandsApart allowed (run (boot b) since) S P U →
    (allowed.creates ≡ true → OthersMakeNothing S (run (boot a) before) turns) → (allowed.creates ≡ true → OthersMakeNothing S (run (boot b) since) others) → AreAlike (run (boot a) before) (run (boot b) since) (Of S) (Of P) →
    (allowed.revokes ≡ true → AreRevokingWithin (run (boot a) before) (run (boot b) since) (Of S)) → (allowed.creates ≡ true → AreCreatingAlone (run (boot a) before) (run (boot b) since) (Of S) (Of P)) →
    AreAtWorkTimeless allowed S (run (boot a) before) turns → schedule S (run (boot a) before) turns ≡ schedule S (run (boot b) since) others → AreAlikeAlong (run (boot a) before) (run (boot b) since) turns others S P
both_alike allowed a b before since turns others S P T U first second nothing none alike takes alone works same =
    let k = run (boot a) before in
    let l = run (boot b) since in
    let derived : allowed.revokes ≡ true → AreDerivedAlike (run (boot a) before) (run (boot b) since) (Of S) = λ yes. (takes yes).alike in
    let twins : AreTwins (run (boot a) before) (run (boot b) since) S P =
    record { side = apart_side allowed.creates a before S P T first.apart; alike = alike; first = reached_sound a before; second = reached_sound b since } in
    let left = left_along allowed a before turns S P T first nothing works in
    let ends = runs_alike allowed S P turns others k l derived alone twins left
    (left_along allowed b since others S P U second none (works_second allowed b since others S P U k turns second none derived alone twins left works same)) works same in
    record { part = ends.alike; deeds = ends.deeds; bytes = ends.bytes }

-- ON DIVIDED PROCESSORS

-- the first goes on elsewhere to the next turn of a processor of the side's
goes_home : {A : Type 0} (allowed : Allowed) (S P C : ℕ → Bool) (ts : List ℕ) (k l : KernelState) (T : ℕ → Type 0) (cpu : ℕ) (rest : List ℕ) → GoesHome allowed.creates k S P C T ts → AreAtWork allowed S k ts →
    (allowed.creates ≡ true → StayOn S C k ts) → AreAlike k l (Of S) (Of P) → AreTogether allowed k l S P C → filter C ts ≡ cpu ∷ rest →
    ((j : KernelState) (on : ℕ) (V : ℕ → Type 0) (vs : List ℕ) → on ≡ cpu → C on ≡ true → IsReached allowed.creates j S P V → IsAtHome j (Of S) (Of P) (Of C) → OwnWorks allowed S j on →
    GoesHome allowed.creates (after j on) S P C (more j V on) vs → AreAtWork allowed S (after j on) vs → (allowed.creates ≡ true → StayOn S C (after j on) vs) →
    AreAlike j l (Of S) (Of P) → AreTogether allowed j l S P C → filter C vs ≡ rest → A) → A
goes_home allowed S P C [] k l T cpu rest g works stays alike timed same f = absurd (cc)
goes_home {A} allowed S P C (other ∷ ts) k l T cpu rest g works stays alike timed same f =
    by_test (C other) refl same (λ next at_work stay a t also. goes_home allowed S P C ts (after k other) l (more k T other) cpu rest next at_work stay a t also f)
  where
    by_test : (t : Bool) → C other ≡ t → (if t then other ∷ filter C ts else filter C ts) ≡ cpu ∷ rest →
        (GoesHome allowed.creates (after k other) S P C (more k T other) ts → AreAtWork allowed S (after k other) ts → (allowed.creates ≡ true → StayOn S C (after k other) ts) → AreAlike (after k other) l (Of S) (Of P) →
        AreTogether allowed (after k other) l S P C → filter C ts ≡ cpu ∷ rest → A) → A
    by_test true is also later =
        let one : other ≡ cpu = cc in
        let tails : filter C ts ≡ rest = cc in
        f k other T ts one is g.reached g.home.0 works.0 (gone_home allowed k S P C T other ts g is works.0 (λ yes. (timed.within yes).first)) works.1 (λ yes. (stays yes).1) alike timed tails
    by_test false is also later =
        let away = turn_away allowed.creates k S P C T other ts g is in
        later (gone_away allowed.creates k S P C T other ts g is) works.1 (λ yes. (stays yes).1)
        (alike_through (after k other) k l (Of S) (Of P) (alike_flipped k (after k other) (Of S) (Of P) away.same) alike)
        (together_first allowed k l S P C T other g.reached (λ yes. (g.nothing yes).0) away timed) also

-- execution contexts of the second are where the first's are
kept_members : (creates : Bool) (k : KernelState) (S P : ℕ → Bool) (T : ℕ → Type 0) → creates ≡ true → IsKeptApart creates k S P T → (n pd cpu : ℕ) (kind : EcKind) (event : ℕ) → slice_get k.objects n ≡ Some (Ec pd cpu kind event) → S pd ≡ true → P n ≡ true
kept_members false k S P T may c = absurd (never may)
kept_members true k S P T may c = c.alone.members

on_alike : (k l : KernelState) (S P C : ℕ → Bool) → AreAlike k l (Of S) (Of P) → ((n pd cpu : ℕ) (kind : EcKind) (event : ℕ) → slice_get l.objects n ≡ Some (Ec pd cpu kind event) → S pd ≡ true → P n ≡ true) → AreOn k (Of S) (Of C) → AreOn l (Of S) (Of C)
on_alike k l S P C alike members on n pd cpu kind event is s = on n pd cpu kind event (sym (alike.objects n (members n pd cpu kind event is s)) ∙ is) s

-- what the second does
abbrev WorksOn : Allowed → (ℕ → Bool) → (ℕ → Bool) → KernelState → List ℕ → Type 0
WorksOn allowed S C l us = AreAtWork allowed S l us × (allowed.creates ≡ true → StayOn S C l us)

pub there_second : (allowed : Allowed) (b : Scenario) (since others : List ℕ) (S P C : ℕ → Bool) (U : ℕ → Type 0) (k : KernelState) (T : ℕ → Type 0) (ts : List ℕ) → IsKeptApart allowed.creates (run (boot b) since) S P U →
    IsDivided (run (boot b) since) (Of S) U (Of P) (Of C) → GoesHome allowed.creates k S P C T ts → AreAtWork allowed S k ts → (allowed.creates ≡ true → StayOn S C k ts) →
    AreAlike k (run (boot b) since) (Of S) (Of P) → AreTogether allowed k (run (boot b) since) S P C → filter C ts ≡ filter C others → WorksOn allowed S C (run (boot b) since) others
there_second allowed b since [] S P C U k T ts part divided g works stays alike timed same =
    (tt, λ yes. on_alike k (run (boot b) since) S P C alike (kept_members allowed.creates (run (boot b) since) S P U yes part) (stays_here S C k ts (stays yes)))
there_second allowed b since (cpu ∷ us) S P C U k T ts part divided g works stays alike timed same =
    by_test (C cpu) refl same (λ own j V vs later_part goes at_work stay a t rest.
    let on : allowed.creates ≡ true → AreOn (after (run (boot b) since) cpu) (Of S) (Of C) =
    λ yes. on_alike j (after l cpu) S P C a (kept_members allowed.creates (after l cpu) S P (more l U cpu) yes later_part) (stays_here S C j vs (stay yes)) in
    let further =
    subst (λ (m : KernelState). IsKeptApart allowed.creates m S P (more l U cpu) → IsDivided m (Of S) (more l U cpu) (Of P) (Of C) → AreAlike j m (Of S) (Of P) → AreTogether allowed j m S P C → WorksOn allowed S C m us) next
    (λ p d b_ c. there_second allowed b (since ++ cpu ∷ []) us S P C (more l U cpu) j V vs p d goes at_work stay b_ c rest) later_part
    (divided_next allowed b since S P C U cpu part divided own (λ yes. (timed.within yes).second) later_part on) a t in (
      (own, further.0),
      λ yes. (on_alike k l S P C alike (kept_members allowed.creates l S P U yes part) (stays_here S C k ts (stays yes)), further.1 yes),
    ))
  where
    l : KernelState
    l = run (boot b) since

    next : run (boot b) (since ++ cpu ∷ []) ≡ after (run (boot b) since) cpu
    next = run_append (boot b) since (cpu ∷ [])

    home : IsAtHome (run (boot b) since) (Of S) (Of P) (Of C)
    home = at_home_of allowed.creates b since S P C U part divided

    nothing : allowed.creates ≡ true → MakesNothing S (run (boot b) since) cpu
    nothing may none = ap (λ (os : List Object). length os) (others_make_nothing allowed.creates b since S P U cpu part divided.creates none)

    by_test : (t : Bool) → C cpu ≡ t → filter C ts ≡ (if t then cpu ∷ filter C us else filter C us) →
        (OwnWorks allowed S (run (boot b) since) cpu → (j : KernelState) (V : ℕ → Type 0) (vs : List ℕ) →
        IsKeptApart allowed.creates (after (run (boot b) since) cpu) S P (more (run (boot b) since) U cpu) → GoesHome allowed.creates j S P C V vs → AreAtWork allowed S j vs → (allowed.creates ≡ true → StayOn S C j vs) →
        AreAlike j (after (run (boot b) since) cpu) (Of S) (Of P) → AreTogether allowed j (after (run (boot b) since) cpu) S P C → filter C vs ≡ filter C us → WorksOn allowed S C (run (boot b) since) (cpu ∷ us)) →
        WorksOn allowed S C (run (boot b) since) (cpu ∷ us)
    by_test false is also later =
        let away = away_turn allowed.creates b since S P C U cpu part home nothing is in
        let nobody = away.own in
        later (λ ec sc own. absurd (cc)) k T ts (away_next allowed.creates b since S P C U cpu part home nothing is) g works stays
        (alike_through k l (after l cpu) (Of S) (Of P) alike away.same) (together_second allowed k l S P C U cpu (record { scenario = b; before = since; is = refl; part = part }) nothing away timed) also
    by_test true is also later =
        goes_home allowed S P C ts k l T cpu (filter C us) g works stays alike timed also (λ j on V vs one c reached at_home at_work goes works_later stay a t rest.
        let step = home_at allowed j l S P C V U on reached (record { scenario = b; before = since; is = refl; part = part }) a t at_home home at_work c in
        let own = subst (OwnWorks allowed S l) one step.works in
        later own (after j on) (more j V on) vs (home_next allowed b since S P C U cpu part home nothing is own (λ yes. (timed.within yes).second)) goes works_later stay
        (subst (λ (n : ℕ). AreAlike (after j on) (after l n) (Of S) (Of P)) one step.alike) (subst (λ (n : ℕ). AreTogether allowed (after j on) (after l n) S P C) one step.timed) rest)
