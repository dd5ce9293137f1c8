-- Turns one after another, of the side's processors and of others.
use Rattle.std.proofs.Common.{◌≡◌, ℕ, List, [], ◌∷◌, ◌++◌, refl, sym, ap, ap₂, ◌∙◌, subst}
use Rattle.std.specs.Prelude.{Bool, true, false, filter, option_map, Option, Some, None, if◌then◌else◌}
use Rattle.nova_model.specs.Boot.{Scenario, boot}
use Rattle.nova_model.specs.Choice.{in_front}
use Rattle.nova_model.specs.Runs.{after, run, trace}
use Rattle.nova_model.specs.State.{KernelState}
use Rattle.nova_model.specs.declared.deed.Deed.{Deed}
use Rattle.nova_model.specs.declared.log.LogByte.{LogByte}
use Rattle.nova_model.specs.declared.event.Event.{Event}
use Rattle.law_forest.proofs.Turning.{event_at}
use Rattle.law_isolation.specs.Sound.{IsSound}
use Rattle.law_isolation.proofs.Runs.{reached_sound}
use Rattle.law_origins.proofs.Lists.{run_append}
use Rattle.law_integrity.specs.Confined.{Of, more}
use Rattle.law_flow.specs.Flow.{AreAlike, AreAtWork, DerivesWithin, IsAtWork, OthersMakeNothing, RevokesNothing, Allowed, gain_for, own_bytes, own_deed, own_deeds, own_turn}
use Rattle.law_flow.specs.Processors.{AreAtHome, AreTimed, IsAtHome, unfound, unnumbered_event}
use Rattle.law_flow.proofs.Apart.{IsKeptApart, MakesNothing, apart_others_derive}
use Rattle.law_flow.proofs.Elsewhere.{AwayTurn, away_next, away_turn, home_next}
use Rattle.law_flow.proofs.Home.{AreTogether, HomeTurn, home_turn, own_none_deed}
use Rattle.law_flow.proofs.Numbers.{left_numbers, numbers_left}
use Rattle.law_flow.proofs.Ringing.{RingThere, ring_next}
use Rattle.law_flow.proofs.Telling.{told_away, told_here, told_on}
use Rattle.law_flow.proofs.Turns.{alike_flipped, alike_through, derived_left, left_derived}
use Rattle.law_flow.proofs.Paying.{timed_flipped, timed_through}

-- ALONG TURNS

-- a state that turns reach, with the condition
pub record IsReached (creates : Bool) (k : KernelState) (S P : ℕ → Bool) (T : ℕ → Type 0) : Type 0 where
  pub scenario : Scenario
  pub before : List ℕ
  pub is : run (boot scenario) before ≡ k
  pub part : IsKeptApart creates k S P T

-- what is asked of it where the side is at home
abbrev pub OwnWorks : Allowed → (ℕ → Bool) → KernelState → ℕ → Type 0
OwnWorks allowed S k cpu = (ec sc : ℕ) → own_turn S k cpu ≡ Some (ec, sc) → IsAtWork (Unit {0}) (RevokesNothing k (Of S)) (allowed.revokes ≡ true) (allowed.creates ≡ true) k ec

pub home_further : (allowed : Allowed) (k : KernelState) (S P C : ℕ → Bool) (T : ℕ → Type 0) (cpu : ℕ) → IsReached allowed.creates k S P T → IsAtHome k (Of S) (Of P) (Of C) → (allowed.creates ≡ true → MakesNothing S k cpu) → C cpu ≡ true →
    OwnWorks allowed S k cpu → (allowed.revokes ≡ true → DerivesWithin k (Of S)) → IsReached allowed.creates (after k cpu) S P (more k T cpu)
home_further allowed k S P C T cpu r home nothing c works within = record {
  scenario = r.scenario;
  before = r.before ++ cpu ∷ [];
  is = run_append (boot r.scenario) r.before (cpu ∷ []) ∙ ap (λ (l : KernelState). after l cpu) r.is;
  part =
      subst (λ (l : KernelState). IsKeptApart allowed.creates l S P T → IsAtHome l (Of S) (Of P) (Of C) → (allowed.creates ≡ true → MakesNothing S l cpu) → OwnWorks allowed S l cpu →
      (allowed.revokes ≡ true → DerivesWithin l (Of S)) → IsKeptApart allowed.creates (after l cpu) S P (more l T cpu)) r.is
      (λ p h n w v. home_next allowed r.scenario r.before S P C T cpu p h n c w v) r.part home nothing works within;
}

pub away_further : (creates : Bool) (k : KernelState) (S P C : ℕ → Bool) (T : ℕ → Type 0) (cpu : ℕ) → IsReached creates k S P T → IsAtHome k (Of S) (Of P) (Of C) → (creates ≡ true → MakesNothing S k cpu) → C cpu ≡ false →
    IsReached creates (after k cpu) S P (more k T cpu)
away_further creates k S P C T cpu r home nothing out = record {
  scenario = r.scenario;
  before = r.before ++ cpu ∷ [];
  is = run_append (boot r.scenario) r.before (cpu ∷ []) ∙ ap (λ (l : KernelState). after l cpu) r.is;
  part =
      subst (λ (l : KernelState). IsKeptApart creates l S P T → IsAtHome l (Of S) (Of P) (Of C) → (creates ≡ true → MakesNothing S l cpu) → IsKeptApart creates (after l cpu) S P (more l T cpu)) r.is
      (λ p h n. away_next creates r.scenario r.before S P C T cpu p h n out) r.part home nothing;
}

pub away_at : (creates : Bool) (k : KernelState) (S P C : ℕ → Bool) (T : ℕ → Type 0) (cpu : ℕ) → IsReached creates k S P T → IsAtHome k (Of S) (Of P) (Of C) → (creates ≡ true → MakesNothing S k cpu) → C cpu ≡ false → AwayTurn k S P C cpu
away_at creates k S P C T cpu r home nothing out =
    subst (λ (l : KernelState). IsKeptApart creates l S P T → IsAtHome l (Of S) (Of P) (Of C) → (creates ≡ true → MakesNothing S l cpu) → AwayTurn l S P C cpu) r.is
    (λ p h n. away_turn creates r.scenario r.before S P C T cpu p h n out) r.part home nothing

pub home_at : (allowed : Allowed) (k l : KernelState) (S P C : ℕ → Bool) (T U : ℕ → Type 0) (cpu : ℕ) → IsReached allowed.creates k S P T → IsReached allowed.creates l S P U → AreAlike k l (Of S) (Of P) → AreTogether allowed k l S P C →
    IsAtHome k (Of S) (Of P) (Of C) → IsAtHome l (Of S) (Of P) (Of C) → OwnWorks allowed S k cpu → C cpu ≡ true → HomeTurn allowed k l S P C cpu
home_at allowed k l S P C T U cpu r q alike timed home abroad works c =
    subst (λ (m : KernelState). IsKeptApart allowed.creates m S P T → AreAlike m l (Of S) (Of P) → AreTogether allowed m l S P C → IsAtHome m (Of S) (Of P) (Of C) → OwnWorks allowed S m cpu → HomeTurn allowed m l S P C cpu) r.is
    (subst (λ (n : KernelState). IsKeptApart allowed.creates n S P U → IsAtHome n (Of S) (Of P) (Of C) → IsKeptApart allowed.creates (run (boot r.scenario) r.before) S P T →
    AreAlike (run (boot r.scenario) r.before) n (Of S) (Of P) → AreTogether allowed (run (boot r.scenario) r.before) n S P C → IsAtHome (run (boot r.scenario) r.before) (Of S) (Of P) (Of C) →
    OwnWorks allowed S (run (boot r.scenario) r.before) cpu → HomeTurn allowed (run (boot r.scenario) r.before) n S P C cpu) q.is
    (λ second other first a t h w. home_turn allowed r.scenario q.scenario r.before q.before S P C T U cpu first second a t h other w c) q.part abroad)
    r.part alike timed home works

derive_at : (creates : Bool) (k : KernelState) (S P : ℕ → Bool) (T : ℕ → Type 0) (cpu : ℕ) → IsReached creates k S P T → (creates ≡ true → MakesNothing S k cpu) → own_turn S k cpu ≡ None → DerivesWithin k (Of S) → DerivesWithin (after k cpu) (Of S)
derive_at creates k S P T cpu r nothing none within =
    subst (λ (l : KernelState). IsKeptApart creates l S P T → (creates ≡ true → MakesNothing S l cpu) → own_turn S l cpu ≡ None → DerivesWithin l (Of S) → DerivesWithin (after l cpu) (Of S)) r.is
    (λ p m n w. apart_others_derive creates r.scenario r.before S P T cpu p n m w) r.part nothing none within

-- a state that is reached is sound
pub sound_there : (creates : Bool) (k : KernelState) (S P : ℕ → Bool) (T : ℕ → Type 0) → IsReached creates k S P T → IsSound k
sound_there creates k S P T r = subst IsSound r.is (reached_sound r.scenario r.before)

-- a turn elsewhere leaves them together, in the first and in the second
pub together_first : (allowed : Allowed) (k l : KernelState) (S P C : ℕ → Bool) (T : ℕ → Type 0) (cpu : ℕ) → IsReached allowed.creates k S P T → (allowed.creates ≡ true → MakesNothing S k cpu) → AwayTurn k S P C cpu → AreTogether allowed k l S P C →
    AreTogether allowed (after k cpu) l S P C
together_first allowed k l S P C T cpu r nothing away t = record {
  timed = timed_through (after k cpu) k l (Of P) (Of C) (timed_flipped k (after k cpu) (Of P) (Of C) away.timed) t.timed;
  within = λ yes. let w = t.within yes in
      record { alike = left_derived k l S P cpu (sound_there allowed.creates k S P T r) away.same w.alike; first = derive_at allowed.creates k S P T cpu r nothing away.own w.first; second = w.second };
  alone = λ yes. left_numbers k l S P cpu away.same (t.alone yes);
}

pub together_second : (allowed : Allowed) (k l : KernelState) (S P C : ℕ → Bool) (U : ℕ → Type 0) (cpu : ℕ) → IsReached allowed.creates l S P U → (allowed.creates ≡ true → MakesNothing S l cpu) → AwayTurn l S P C cpu → AreTogether allowed k l S P C →
    AreTogether allowed k (after l cpu) S P C
together_second allowed k l S P C U cpu r nothing away t = record {
  timed = timed_through k l (after l cpu) (Of P) (Of C) t.timed away.timed;
  within = λ yes. let w = t.within yes in
      record { alike = derived_left k l S P cpu (sound_there allowed.creates l S P U r) away.same w.alike; first = w.first; second = derive_at allowed.creates l S P U cpu r nothing away.own w.second };
  alone = λ yes. numbers_left k l S P cpu away.same (t.alone yes);
}

pub record HomeEnds (k l : KernelState) (S P C : ℕ → Bool) (es fs : List (ℕ × Deed)) (bs cs : List LogByte) (xs ys : List Event) : Type 0 where
  pub alike : AreAlike k l (Of S) (Of P)
  pub timed : AreTimed k l (Of P) (Of C)
  pub deeds : fs ≡ es
  pub bytes : cs ≡ bs
  pub events : ys ≡ xs

-- what both are asked for along their turns
pub record GoesHome (creates : Bool) (k : KernelState) (S P C : ℕ → Bool) (T : ℕ → Type 0) (turns : List ℕ) : Type 0 where
  pub reached : IsReached creates k S P T
  pub home : AreAtHome S P C k turns
  pub nothing : creates ≡ true → OthersMakeNothing S k turns

-- and after the first of them
pub gone_home : (allowed : Allowed) (k : KernelState) (S P C : ℕ → Bool) (T : ℕ → Type 0) (cpu : ℕ) (turns : List ℕ) → GoesHome allowed.creates k S P C T (cpu ∷ turns) → C cpu ≡ true → OwnWorks allowed S k cpu →
    (allowed.revokes ≡ true → DerivesWithin k (Of S)) → GoesHome allowed.creates (after k cpu) S P C (more k T cpu) turns
gone_home allowed k S P C T cpu turns g c works within = record {
  reached = home_further allowed k S P C T cpu g.reached g.home.0 (λ yes. (g.nothing yes).0) c works within;
  home = g.home.1;
  nothing = λ yes. (g.nothing yes).1;
}

pub gone_away : (creates : Bool) (k : KernelState) (S P C : ℕ → Bool) (T : ℕ → Type 0) (cpu : ℕ) (turns : List ℕ) → GoesHome creates k S P C T (cpu ∷ turns) → C cpu ≡ false → GoesHome creates (after k cpu) S P C (more k T cpu) turns
gone_away creates k S P C T cpu turns g out = record {
  reached = away_further creates k S P C T cpu g.reached g.home.0 (λ yes. (g.nothing yes).0) out;
  home = g.home.1;
  nothing = λ yes. (g.nothing yes).1;
}

pub turn_away : (creates : Bool) (k : KernelState) (S P C : ℕ → Bool) (T : ℕ → Type 0) (cpu : ℕ) (turns : List ℕ) → GoesHome creates k S P C T (cpu ∷ turns) → C cpu ≡ false → AwayTurn k S P C cpu
turn_away creates k S P C T cpu turns g out = away_at creates k S P C T cpu g.reached g.home.0 (λ yes. (g.nothing yes).0) out

-- alarms ring where they rang
ring_on : (A : ℕ → Bool) (creates : Bool) (k : KernelState) (S P C : ℕ → Bool) (T : ℕ → Type 0) (cpu : ℕ) → IsReached creates k S P T → RingThere A k P C → RingThere A (after k cpu) P C
ring_on A creates k S P C T cpu r rings = subst (λ (l : KernelState). RingThere A l P C → RingThere A (after l cpu) P C) r.is (λ it. ring_next A r.scenario r.before P C cpu it) rings

-- the second goes on elsewhere alone
ends_elsewhere : (A : ℕ → Bool) (allowed : Allowed) (S P C : ℕ → Bool) (us : List ℕ) (k l : KernelState) (U : ℕ → Type 0) → AreAlike k l (Of S) (Of P) → AreTogether allowed k l S P C → GoesHome allowed.creates l S P C U us → [] ≡ filter C us →
    HomeEnds k (run l us) S P C [] (own_deeds S l us) [] (own_bytes S l us) [] (told_on A C (trace l us))
ends_elsewhere A allowed S P C [] k l U alike timed g none = record { alike = alike; timed = timed.timed; deeds = refl; bytes = refl; events = refl }
ends_elsewhere A allowed S P C (cpu ∷ us) k l U alike timed g none = by_test (C cpu) refl none (λ a t h rest. ends_elsewhere A allowed S P C us k (after l cpu) (more l U cpu) a t h rest)
  where
    by_test : (t : Bool) → C cpu ≡ t → [] ≡ (if t then cpu ∷ filter C us else filter C us) →
        (AreAlike k (after l cpu) (Of S) (Of P) → AreTogether allowed k (after l cpu) S P C → GoesHome allowed.creates (after l cpu) S P C (more l U cpu) us → [] ≡ filter C us →
        HomeEnds k (run (after l cpu) us) S P C [] (own_deeds S (after l cpu) us) [] (own_bytes S (after l cpu) us) [] (told_on A C (trace (after l cpu) us))) →
        HomeEnds k (run (after l cpu) us) S P C [] (in_front (own_deed S l cpu) (own_deeds S (after l cpu) us)) [] (gain_for l cpu (own_turn S l cpu) ++ own_bytes S (after l cpu) us)
        [] (told_on A C (in_front (event_at l cpu) (trace (after l cpu) us)))
    by_test true is rest later = absurd (cc)
    by_test false is rest later =
        let away = turn_away allowed.creates l S P C U cpu us g is in
        let ended = later (alike_through k l (after l cpu) (Of S) (Of P) alike away.same) (together_second allowed k l S P C U cpu g.reached (λ yes. (g.nothing yes).0) away timed)
        (gone_away allowed.creates l S P C U cpu us g is) rest in
        record { alike = ended.alike; timed = ended.timed; deeds = ap (λ (o : Option (ℕ × Deed)). in_front o (own_deeds S (after l cpu) us)) (own_none_deed S l cpu away.own) ∙ ended.deeds; bytes = ap (λ (o : Option (ℕ × ℕ)). gain_for l cpu o ++ own_bytes S (after l cpu) us) away.own ∙ ended.bytes; events = told_away A C l cpu (trace (after l cpu) us) is ∙ ended.events }

-- the second goes on elsewhere until the next turn of a processor of the side's, which is as the first's
meets_home : (A : ℕ → Bool) (allowed : Allowed) (S P C : ℕ → Bool) (us : List ℕ) (k l : KernelState) (T U : ℕ → Type 0) (cpu : ℕ) (ts : List ℕ) → C cpu ≡ true → RingThere A k P C → GoesHome allowed.creates k S P C T (cpu ∷ ts) → OwnWorks allowed S k cpu → GoesHome allowed.creates l S P C U us →
    AreAlike k l (Of S) (Of P) → AreTogether allowed k l S P C → cpu ∷ filter C ts ≡ filter C us →
    ((vs : List ℕ) (m : KernelState) (V : ℕ → Type 0) → GoesHome allowed.creates m S P C V vs → AreAlike (after k cpu) m (Of S) (Of P) → AreTogether allowed (after k cpu) m S P C → filter C ts ≡ filter C vs →
    HomeEnds (run (after k cpu) ts) (run m vs) S P C (own_deeds S (after k cpu) ts) (own_deeds S m vs) (own_bytes S (after k cpu) ts) (own_bytes S m vs) (told_on A C (trace (after k cpu) ts)) (told_on A C (trace m vs))) →
    HomeEnds (run (after k cpu) ts) (run l us) S P C (in_front (own_deed S k cpu) (own_deeds S (after k cpu) ts)) (own_deeds S l us) (gain_for k cpu (own_turn S k cpu) ++ own_bytes S (after k cpu) ts) (own_bytes S l us)
    (told_on A C (in_front (event_at k cpu) (trace (after k cpu) ts))) (told_on A C (trace l us))
meets_home A allowed S P C [] k l T U cpu ts c rings g w h alike timed same later = absurd (cc)
meets_home A allowed S P C (other ∷ us) k l T U cpu ts c rings g w h alike timed same later =
    by_test (C other) refl same (λ next a t rest. meets_home A allowed S P C us k (after l other) T (more l U other) cpu ts c rings g w next a t rest later)
  where
    by_test : (t : Bool) → C other ≡ t → cpu ∷ filter C ts ≡ (if t then other ∷ filter C us else filter C us) →
        (GoesHome allowed.creates (after l other) S P C (more l U other) us → AreAlike k (after l other) (Of S) (Of P) → AreTogether allowed k (after l other) S P C → cpu ∷ filter C ts ≡ filter C us →
        HomeEnds (run (after k cpu) ts) (run (after l other) us) S P C (in_front (own_deed S k cpu) (own_deeds S (after k cpu) ts)) (own_deeds S (after l other) us) (gain_for k cpu (own_turn S k cpu) ++ own_bytes S (after k cpu) ts) (own_bytes S (after l other) us)
        (told_on A C (in_front (event_at k cpu) (trace (after k cpu) ts))) (told_on A C (trace (after l other) us))) →
        HomeEnds (run (after k cpu) ts) (run (after l other) us) S P C (in_front (own_deed S k cpu) (own_deeds S (after k cpu) ts)) (in_front (own_deed S l other) (own_deeds S (after l other) us))
        (gain_for k cpu (own_turn S k cpu) ++ own_bytes S (after k cpu) ts) (gain_for l other (own_turn S l other) ++ own_bytes S (after l other) us)
        (told_on A C (in_front (event_at k cpu) (trace (after k cpu) ts))) (told_on A C (in_front (event_at l other) (trace (after l other) us)))
    by_test false is rest goes_on =
        let away = turn_away allowed.creates l S P C U other us h is in
        let ended = goes_on (gone_away allowed.creates l S P C U other us h is)
        (alike_through k l (after l other) (Of S) (Of P) alike away.same) (together_second allowed k l S P C U other h.reached (λ yes. (h.nothing yes).0) away timed) rest in
        record { alike = ended.alike; timed = ended.timed; deeds = ap (λ (o : Option (ℕ × Deed)). in_front o (own_deeds S (after l other) us)) (own_none_deed S l other away.own) ∙ ended.deeds; bytes = ap (λ (o : Option (ℕ × ℕ)). gain_for l other o ++ own_bytes S (after l other) us) away.own ∙ ended.bytes; events = told_away A C l other (trace (after l other) us) is ∙ ended.events }
    by_test true is rest goes_on =
        let one : cpu ≡ other = cc in
        let tails : filter C ts ≡ filter C us = cc in
        let step = home_at allowed k l S P C T U cpu g.reached h.reached alike timed g.home.0 h.home.0 w c in
        let ended = later us (after l other) (more l U other) (gone_home allowed l S P C U other us h is (subst (OwnWorks allowed S l) one step.works) (λ yes. (timed.within yes).second))
        (subst (λ (n : ℕ). AreAlike (after k cpu) (after l n) (Of S) (Of P)) one step.alike) (subst (λ (n : ℕ). AreTogether allowed (after k cpu) (after l n) S P C) one step.timed) tails in
        record {
          alike = ended.alike;
          timed = ended.timed;
          deeds =
              ap₂ (λ (o : Option (ℕ × Deed)) (ds : List (ℕ × Deed)). in_front o ds) (sym (ap (own_deed S l) one) ∙ step.deeds) ended.deeds;
          bytes = ap₂ (λ (xs ys : List LogByte). xs ++ ys) (sym (ap (λ (n : ℕ). gain_for l n (own_turn S l n)) one) ∙ step.bytes) ended.bytes;
          events =
              told_here A C l other (trace (after l other) us) is
              ∙ ap₂ (λ (o : Option Event) (es : List Event). in_front o es) (sym (ap (λ (n : ℕ). option_map (unfound A) (option_map unnumbered_event (event_at l n))) one) ∙ step.event A rings) ended.events
              ∙ sym (told_here A C k cpu (trace (after k cpu) ts) c);
        }

pub home_runs : (A : ℕ → Bool) (allowed : Allowed) (S P C : ℕ → Bool) (ts us : List ℕ) (k l : KernelState) (T U : ℕ → Type 0) → RingThere A k P C → GoesHome allowed.creates k S P C T ts → AreAtWork allowed S k ts → GoesHome allowed.creates l S P C U us → AreAlike k l (Of S) (Of P) → AreTogether allowed k l S P C →
    filter C ts ≡ filter C us → HomeEnds (run k ts) (run l us) S P C (own_deeds S k ts) (own_deeds S l us) (own_bytes S k ts) (own_bytes S l us) (told_on A C (trace k ts)) (told_on A C (trace l us))
home_runs A allowed S P C [] us k l T U rings g works h alike timed same = ends_elsewhere A allowed S P C us k l U alike timed h same
home_runs A allowed S P C (cpu ∷ ts) us k l T U rings g works h alike timed same =
    by_test (C cpu) refl same (λ j vs m V W there first at_work second a t rest. home_runs A allowed S P C ts vs j m V W there first at_work second a t rest)
  where
    by_test : (t : Bool) → C cpu ≡ t → (if t then cpu ∷ filter C ts else filter C ts) ≡ filter C us →
        ((j : KernelState) (vs : List ℕ) (m : KernelState) (V W : ℕ → Type 0) → RingThere A j P C → GoesHome allowed.creates j S P C V ts → AreAtWork allowed S j ts → GoesHome allowed.creates m S P C W vs → AreAlike j m (Of S) (Of P) → AreTogether allowed j m S P C → filter C ts ≡ filter C vs →
        HomeEnds (run j ts) (run m vs) S P C (own_deeds S j ts) (own_deeds S m vs) (own_bytes S j ts) (own_bytes S m vs) (told_on A C (trace j ts)) (told_on A C (trace m vs))) →
        HomeEnds (run (after k cpu) ts) (run l us) S P C (in_front (own_deed S k cpu) (own_deeds S (after k cpu) ts)) (own_deeds S l us) (gain_for k cpu (own_turn S k cpu) ++ own_bytes S (after k cpu) ts) (own_bytes S l us)
        (told_on A C (in_front (event_at k cpu) (trace (after k cpu) ts))) (told_on A C (trace l us))
    by_test true is rest later =
        meets_home A allowed S P C us k l T U cpu ts is rings g works.0 h alike timed rest (λ vs m V next a t tails. later (after k cpu) vs m (more k T cpu) V (ring_on A allowed.creates k S P C T cpu g.reached rings)
        (gone_home allowed k S P C T cpu ts g is works.0 (λ yes. (timed.within yes).first)) works.1 next a t tails)
    by_test false is rest later =
        let away = turn_away allowed.creates k S P C T cpu ts g is in
        let ended = later (after k cpu) us l (more k T cpu) U (ring_on A allowed.creates k S P C T cpu g.reached rings) (gone_away allowed.creates k S P C T cpu ts g is) works.1 h
        (alike_through (after k cpu) k l (Of S) (Of P) (alike_flipped k (after k cpu) (Of S) (Of P) away.same) alike)
        (together_first allowed k l S P C T cpu g.reached (λ yes. (g.nothing yes).0) away timed) rest in
        record { alike = ended.alike; timed = ended.timed; deeds = ended.deeds ∙ sym (ap (λ (o : Option (ℕ × Deed)). in_front o (own_deeds S (after k cpu) ts)) (own_none_deed S k cpu away.own)); bytes = ended.bytes ∙ sym (ap (λ (o : Option (ℕ × ℕ)). gain_for k cpu o ++ own_bytes S (after k cpu) ts) away.own); events = ended.events ∙ sym (told_away A C k cpu (trace (after k cpu) ts) is) }
