-- A side that is kept apart from others, by what is there where it creates: before a turn, after it, and along turns.
use Rattle.std.proofs.Common.{◌≡◌, ℕ, List, [], ◌∷◌, ◌++◌, length, refl, ap, ◌∙◌, subst}
use Rattle.std.specs.Prelude.{Bool, true, false, slice_get, Option, Some, None}
use Rattle.std.proofs.lemmas.Option.{slice_get_within}
use Rattle.nova_objects.specs.declared.object.EcKind.{EcKind}
use Rattle.nova_objects.specs.declared.object.Object.TheVariants.{Ec}
use Rattle.nova_model.specs.Boot.{Scenario, boot}
use Rattle.nova_model.specs.Runs.{after, run}
use Rattle.nova_model.specs.State.{KernelState, entry}
use Rattle.nova_model.specs.declared.times.Deadline.{Deadline}
use Rattle.law_forest.specs.Effects.{Passing}
use Rattle.law_forest.specs.Turns.{IsPassing}
use Rattle.law_isolation.proofs.Runs.{reached_sound}
use Rattle.law_origins.proofs.Lists.{run_append}
use Rattle.law_integrity.specs.Confined.{IsOwned, Of, more}
use Rattle.law_integrity.proofs.Homes.{reached_homed}
use Rattle.law_integrity.proofs.Passing.{due_in}
use Rattle.law_flow.specs.Flow.{AreAtWork, AreAtWorkTimeless, AreLeftAlone, DerivesWithin, IsAtWork, IsGivingWithin, IsLeftAlone, IsPartitioned, IsSide, IsTimeless, OthersMakeNothing, RevokesNothing, Allowed, domains, existing, own_turn}
use Rattle.law_flow.proofs.Existing.{in_existing, none_domains, of_domains, whole_side}
use Rattle.law_flow.proofs.Guarding.{foreign_so, next_partitioned, none_made_by, others_derive, others_turn, timeless_next}
use Rattle.law_flow.proofs.Lasting.{IsCreatingApart, others_derive_last, others_last, own_deed_there, own_derive_last, own_lasts}
use Rattle.law_flow.proofs.Others.{IsForeign}
use Rattle.law_flow.proofs.Own.{own_derives_on, own_goes_on, own_undated}
use Rattle.law_flow.proofs.Turns.{work_as}
use Rattle.law_flow.proofs.Whole.{foreign_there, gives_whole, left_whole, unmade}
use Rattle.law_flow.proofs.Within.{own_at, within_partition}

-- WHAT IS ASKED

-- of one that may create, and of one that doesn't
abbrev pub IsKeptApart : Bool → KernelState → (ℕ → Bool) → (ℕ → Bool) → (ℕ → Type 0) → Type 0
IsKeptApart false k S P T = IsPartitioned k (Of S) T (Of P)
IsKeptApart true k S P T = IsCreatingApart k S P T

-- what is asked of a turn of others beside one that creates
abbrev pub MakesNothing : (ℕ → Bool) → KernelState → ℕ → Type 0
MakesNothing S k cpu = own_turn S k cpu ≡ None → length (after k cpu).objects ≡ length k.objects

pub apart_side : (creates : Bool) (s : Scenario) (before : List ℕ) (S P : ℕ → Bool) (T : ℕ → Type 0) → IsKeptApart creates (run (boot s) before) S P T → IsSide (run (boot s) before) (Of S) (Of P)
apart_side false s before S P T c = c.side
apart_side true s before S P T c =
    let k = run (boot s) before in
    whole_side k k S P (record { first = reached_sound s before; second = reached_sound s before; homed = reached_homed s before; homed_too = reached_homed s before; objects = refl }) c.part.side

-- an execution context of its part is of its domains
pub apart_owned : (creates : Bool) (k : KernelState) (S P : ℕ → Bool) (T : ℕ → Type 0) → IsKeptApart creates k S P T → (n pd cpu : ℕ) (kind : EcKind) (event : ℕ) → slice_get k.objects n ≡ Some (Ec pd cpu kind event) → P n ≡ true → S pd ≡ true
apart_owned false k S P T c n pd cpu kind event is p = subst (IsOwned k (Of S) n) is (c.guarded.owned n p)
apart_owned true k S P T c n pd cpu kind event is p =
    of_domains k S pd (subst (IsOwned k (Of (domains k S)) n) is (c.part.guarded.owned n (in_existing k P n p (slice_get_within k.objects n (Ec pd cpu kind event) is))))

pub apart_gives : (creates : Bool) (s : Scenario) (before : List ℕ) (S P : ℕ → Bool) (T : ℕ → Type 0) (cpu ec sc : ℕ) → IsKeptApart creates (run (boot s) before) S P T → own_turn S (run (boot s) before) cpu ≡ Some (ec, sc) →
    RevokesNothing (run (boot s) before) (Of S) → IsGivingWithin (run (boot s) before) (Of S) ec
apart_gives false s before S P T cpu ec sc c own none = within_partition S P T (run (boot s) before) cpu ec sc (reached_sound s before) c own none
apart_gives true s before S P T cpu ec sc c own none = gives_whole s before S P T cpu ec sc c.part own none

-- A TURN OF OTHERS

pub others_left : (creates : Bool) (s : Scenario) (before : List ℕ) (S P : ℕ → Bool) (T : ℕ → Type 0) (cpu : ℕ) → IsKeptApart creates (run (boot s) before) S P T → own_turn S (run (boot s) before) cpu ≡ None →
    ((p : Passing) → IsPassing (run (boot s) before) cpu p → IsForeign (run (boot s) before) (Of P) (due_in p)) → (creates ≡ true → MakesNothing S (run (boot s) before) cpu) → IsLeftAlone (run (boot s) before) (Of S) (Of P) cpu
others_left false s before S P T cpu c none foreign nothing = let t = others_turn s before S P T cpu c none foreign in record { same = t.same; side = t.on.side }
others_left true s before S P T cpu c none foreign nothing =
    left_whole s before S P T cpu c.part (λ p passes. foreign_there (run (boot s) before) P (due_in p) (foreign p passes)) none (nothing refl none)

pub others_apart : (creates : Bool) (s : Scenario) (before : List ℕ) (S P : ℕ → Bool) (T : ℕ → Type 0) (cpu : ℕ) → IsKeptApart creates (run (boot s) before) S P T → own_turn S (run (boot s) before) cpu ≡ None →
    ((p : Passing) → IsPassing (run (boot s) before) cpu p → IsForeign (run (boot s) before) (Of P) (due_in p)) → (creates ≡ true → MakesNothing S (run (boot s) before) cpu) →
    IsKeptApart creates (after (run (boot s) before) cpu) S P (more (run (boot s) before) T cpu)
others_apart false s before S P T cpu c none foreign nothing =
    next_partitioned s before S P T cpu c (others_turn s before S P T cpu c none foreign).on (none_made_by S (run (boot s) before) cpu none)
others_apart true s before S P T cpu c none foreign nothing =
    let k = run (boot s) before in
    others_last s before S P T cpu c none
    (others_turn s before (domains k S) (existing k P) T cpu c.part (none_domains k S cpu none) (λ p passes. foreign_there k P (due_in p) (foreign p passes))).on (unmade k cpu (nothing refl none))

pub apart_others_derive : (creates : Bool) (s : Scenario) (before : List ℕ) (S P : ℕ → Bool) (T : ℕ → Type 0) (cpu : ℕ) → IsKeptApart creates (run (boot s) before) S P T → own_turn S (run (boot s) before) cpu ≡ None →
    (creates ≡ true → MakesNothing S (run (boot s) before) cpu) → DerivesWithin (run (boot s) before) (Of S) → DerivesWithin (after (run (boot s) before) cpu) (Of S)
apart_others_derive false s before S P T cpu c none nothing within = others_derive s before S P T cpu c none within
apart_others_derive true s before S P T cpu c none nothing within = others_derive_last s before S P T cpu c none (unmade (run (boot s) before) cpu (nothing refl none)) within

-- ONE OF ITS OWN

pub own_apart : (timed : Type 0) (revokes creates : Bool) (s : Scenario) (before : List ℕ) (S P : ℕ → Bool) (T : ℕ → Type 0) (cpu ec sc : ℕ) → IsKeptApart creates (run (boot s) before) S P T →
    own_turn S (run (boot s) before) cpu ≡ Some (ec, sc) → IsAtWork timed (RevokesNothing (run (boot s) before) (Of S)) (revokes ≡ true) (creates ≡ true) (run (boot s) before) ec →
    (revokes ≡ true → DerivesWithin (run (boot s) before) (Of S)) → IsKeptApart creates (after (run (boot s) before) cpu) S P (more (run (boot s) before) T cpu)
own_apart timed revokes false s before S P T cpu ec sc c own works within = own_goes_on timed revokes s before S P T cpu ec sc c own works within
own_apart timed revokes true s before S P T cpu ec sc c own works within =
    own_lasts timed s before S P T cpu ec sc c own (own_deed_there timed revokes s before S P T cpu ec sc c own works within)

pub apart_own_derives : (timed : Type 0) (revokes creates : Bool) (s : Scenario) (before : List ℕ) (S P : ℕ → Bool) (T : ℕ → Type 0) (cpu ec sc : ℕ) → IsKeptApart creates (run (boot s) before) S P T →
    own_turn S (run (boot s) before) cpu ≡ Some (ec, sc) → IsAtWork timed (RevokesNothing (run (boot s) before) (Of S)) (revokes ≡ true) (creates ≡ true) (run (boot s) before) ec →
    (revokes ≡ true → DerivesWithin (run (boot s) before) (Of S)) → revokes ≡ true → DerivesWithin (after (run (boot s) before) cpu) (Of S)
apart_own_derives timed revokes false s before S P T cpu ec sc c own works within may = own_derives_on timed s before S P T cpu ec sc revokes c own works within may
apart_own_derives timed revokes true s before S P T cpu ec sc c own works within may =
    own_derive_last timed s before S P cpu ec sc own (own_deed_there timed revokes s before S P T cpu ec sc c own works within) (within may)

-- without a deadline it comes to none
pub own_timeless : (revokes creates : Bool) (s : Scenario) (before : List ℕ) (S P : ℕ → Bool) (T : ℕ → Type 0) (cpu ec sc : ℕ) → IsKeptApart creates (run (boot s) before) S P T →
    own_turn S (run (boot s) before) cpu ≡ Some (ec, sc) → IsAtWork ⊥ (RevokesNothing (run (boot s) before) (Of S)) (revokes ≡ true) (creates ≡ true) (run (boot s) before) ec →
    (revokes ≡ true → DerivesWithin (run (boot s) before) (Of S)) → IsTimeless (run (boot s) before) (Of P) → IsTimeless (after (run (boot s) before) cpu) (Of P)
own_timeless revokes false s before S P T cpu ec sc c own works within timeless =
    let k = run (boot s) before in
    timeless_next s before (Of P) cpu timeless (λ n p.
    own_undated (false ≡ true) S k (Of S) (Of P) cpu ec sc own (own_at ⊥ (revokes ≡ true) (false ≡ true) S P T k cpu ec sc (reached_sound s before) c own works within) n (timeless.deadlines n p))
own_timeless revokes true s before S P T cpu ec sc c own works within timeless =
    let k = run (boot s) before in
    timeless_next s before (Of P) cpu timeless (λ n p.
    own_undated (true ≡ true) S k (Of (domains k S)) (Of (existing k P)) cpu ec sc own (own_deed_there ⊥ revokes s before S P T cpu ec sc c own works within) n (timeless.deadlines n p))

-- ALONG TURNS

-- what is asked of the state, and holds after each turn
pub record StandsApart (allowed : Allowed) (k : KernelState) (S P : ℕ → Bool) (T : ℕ → Type 0) : Type 0 where
  pub apart : IsKeptApart allowed.creates k S P T
  pub timeless : IsTimeless k (Of P)
  pub derives : allowed.revokes ≡ true → DerivesWithin k (Of S)

pub others_stand : (allowed : Allowed) (s : Scenario) (before : List ℕ) (S P : ℕ → Bool) (T : ℕ → Type 0) (cpu : ℕ) → StandsApart allowed (run (boot s) before) S P T → own_turn S (run (boot s) before) cpu ≡ None →
    (allowed.creates ≡ true → MakesNothing S (run (boot s) before) cpu) → IsLeftAlone (run (boot s) before) (Of S) (Of P) cpu × StandsApart allowed (after (run (boot s) before) cpu) S P (more (run (boot s) before) T cpu)
others_stand allowed s before S P T cpu c none nothing =
    let foreign = foreign_so (run (boot s) before) (Of P) cpu c.timeless in
    let left = others_left allowed.creates s before S P T cpu c.apart none foreign nothing in (
      left,
      record {
        apart = others_apart allowed.creates s before S P T cpu c.apart none foreign nothing;
        timeless = timeless_next s before (Of P) cpu c.timeless (λ n p. ap (λ (o : Option (Option Deadline)). entry o) (left.same.deadlines n p) ∙ c.timeless.deadlines n p);
        derives = λ yes. apart_others_derive allowed.creates s before S P T cpu c.apart none nothing (c.derives yes);
      },
    )

pub own_stands : (allowed : Allowed) (s : Scenario) (before : List ℕ) (S P : ℕ → Bool) (T : ℕ → Type 0) (cpu ec sc : ℕ) → StandsApart allowed (run (boot s) before) S P T → own_turn S (run (boot s) before) cpu ≡ Some (ec, sc) →
    IsAtWork ⊥ (RevokesNothing (run (boot s) before) (Of S)) (allowed.revokes ≡ true) (allowed.creates ≡ true) (run (boot s) before) ec → StandsApart allowed (after (run (boot s) before) cpu) S P (more (run (boot s) before) T cpu)
own_stands allowed s before S P T cpu ec sc c own works = record {
  apart = own_apart ⊥ allowed.revokes allowed.creates s before S P T cpu ec sc c.apart own works c.derives;
  timeless = own_timeless allowed.revokes allowed.creates s before S P T cpu ec sc c.apart own works c.derives c.timeless;
  derives = apart_own_derives ⊥ allowed.revokes allowed.creates s before S P T cpu ec sc c.apart own works c.derives;
}

pub left_along : (allowed : Allowed) (s : Scenario) (before turns : List ℕ) (S P : ℕ → Bool) (T : ℕ → Type 0) → StandsApart allowed (run (boot s) before) S P T →
    (allowed.creates ≡ true → OthersMakeNothing S (run (boot s) before) turns) → AreAtWorkTimeless allowed S (run (boot s) before) turns → AreLeftAlone allowed.revokes S P (run (boot s) before) turns
left_along allowed s before [] S P T c nothing works = tt
left_along allowed s before (cpu ∷ turns) S P T c nothing works = (
  λ none. (others_stand allowed s before S P T cpu c none (λ yes. (nothing yes).0)).0,
  λ ec sc own gives. apart_gives allowed.creates s before S P T cpu ec sc c.apart own ((works.0 ec sc own).gives gives),
  c.derives,
  subst (λ (l : KernelState). StandsApart allowed l S P (more k T cpu) → (allowed.creates ≡ true → OthersMakeNothing S l turns) → AreAtWorkTimeless allowed S l turns → AreLeftAlone allowed.revokes S P l turns) next
      (left_along allowed s (before ++ cpu ∷ []) turns S P (more k T cpu)) (by_own (own_turn S k cpu) refl) (λ yes. (nothing yes).1) works.1,
)
  where
    k : KernelState
    k = run (boot s) before

    next : run (boot s) (before ++ cpu ∷ []) ≡ after (run (boot s) before) cpu
    next = run_append (boot s) before (cpu ∷ [])

    by_own : (o : Option (ℕ × ℕ)) → own_turn S (run (boot s) before) cpu ≡ o → StandsApart allowed (after (run (boot s) before) cpu) S P (more (run (boot s) before) T cpu)
    by_own None none = (others_stand allowed s before S P T cpu c none (λ yes. (nothing yes).0)).1
    by_own (Some pair) own = own_stands allowed s before S P T cpu pair.0 pair.1 c own (works.0 pair.0 pair.1 own)

-- WHAT IS ALLOWED

-- one that may create
abbrev pub free : Bool → Allowed
free revokes = record { revokes = revokes; creates = true }

-- what may create less is at work where more may be created
pub free_works : (allowed : Allowed) (S : ℕ → Bool) (k : KernelState) (turns : List ℕ) → AreAtWorkTimeless allowed S k turns → AreAtWorkTimeless (free allowed.revokes) S k turns
free_works allowed S k [] works = tt
free_works allowed S k (cpu ∷ turns) works = (
  λ ec sc own.
      work_as ⊥ ⊥ (RevokesNothing k (Of S)) (RevokesNothing k (Of S)) (allowed.revokes ≡ true) (allowed.revokes ≡ true) (allowed.creates ≡ true) (true ≡ true) k ec (λ h. h) (λ is h. h) (λ h. h) (λ h. refl) (works.0 ec sc own),
  free_works allowed S (after k cpu) turns works.1,
)

pub free_works_timed : (allowed : Allowed) (S : ℕ → Bool) (k : KernelState) (turns : List ℕ) → AreAtWork allowed S k turns → AreAtWork (free allowed.revokes) S k turns
free_works_timed allowed S k [] works = tt
free_works_timed allowed S k (cpu ∷ turns) works = (
  λ ec sc own.
      work_as (Unit {0}) (Unit {0}) (RevokesNothing k (Of S)) (RevokesNothing k (Of S)) (allowed.revokes ≡ true) (allowed.revokes ≡ true) (allowed.creates ≡ true) (true ≡ true) k ec (λ h. h) (λ is h. h) (λ h. h) (λ h. refl) (works.0 ec sc own),
  free_works_timed allowed S (after k cpu) turns works.1,
)
