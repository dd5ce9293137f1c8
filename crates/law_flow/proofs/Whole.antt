-- A turn of others that makes no object leaves a side's part alone, with the numbers that no object has yet.
use Rattle.std.proofs.Common.{◌≡◌, ℕ, ◌+◌, List, [], ◌∷◌, ◌++◌, length, ap, ap₂, ◌∙◌, subst, arith}
use Rattle.std.specs.Prelude.{Bool, true, is_some, slice_get, option_map, option_and_then, Option, Some, None}
use Rattle.nova_objects.specs.declared.object.Object.{Object}
use Rattle.nova_objects.specs.declared.object.Object.TheVariants.{Pd}
use Rattle.nova_model.specs.Boot.{Scenario, boot}
use Rattle.nova_model.specs.Creation.{object_of}
use Rattle.nova_model.specs.Runs.{after, run}
use Rattle.nova_model.specs.State.{KernelState, pd_of}
use Rattle.nova_model.specs.declared.new_object.NewObject.{NewObject}
use Rattle.nova_model.specs.declared.times.Due.{Due}
use Rattle.law_forest.specs.Effects.{Passing, joined}
use Rattle.law_forest.specs.Turns.{IsPassing}
use Rattle.law_turns.proofs.Setting.{joined_length}
use Rattle.law_turns.proofs.Serving.{actor_of}
use Rattle.law_isolation.specs.Sound.{IsSound}
use Rattle.law_isolation.proofs.Runs.{reached_sound, turn_sound}
use Rattle.law_origins.proofs.Actors.{is_able}
use Rattle.law_origins.proofs.Lists.{run_append}
use Rattle.law_integrity.specs.Confined.{Of}
use Rattle.law_integrity.proofs.Homes.{AreHomed, home_there, reached_homed}
use Rattle.law_integrity.proofs.Passing.{due_in}
use Rattle.law_flow.specs.Flow.{IsGivingWithin, IsLeftAlone, IsPartitioned, RevokesNothing, domains, existing, if_own, own_turn}
use Rattle.law_flow.proofs.Existing.{AreLevel, in_domains, none_domains, of_domains, of_existing, whole_alike, whole_side}
use Rattle.law_flow.proofs.Guarding.{others_turn}
use Rattle.law_flow.proofs.Numbers.{grows}
use Rattle.law_flow.proofs.Others.{IsForeign}
use Rattle.law_flow.proofs.Turns.{IsOwnTurn, own_acts, own_is}
use Rattle.law_flow.proofs.Within.{within_partition}

pub homed_next : (s : Scenario) (before : List ℕ) (cpu : ℕ) → AreHomed (after (run (boot s) before) cpu)
homed_next s before cpu = subst AreHomed (run_append (boot s) before (cpu ∷ [])) (reached_homed s (before ++ cpu ∷ []))

-- a turn after which as many objects are there makes none
pub unmade : (k : KernelState) (cpu : ℕ) → length (after k cpu).objects ≡ length k.objects → (after k cpu).objects ≡ k.objects
unmade k cpu same = by_made (grows k cpu).made (grows k cpu).objects
  where
    by_made : (o : Option NewObject) → (after k cpu).objects ≡ joined k.objects (option_map object_of o) → (after k cpu).objects ≡ k.objects
    by_made None is = is
    by_made (Some made) is =
        let more : length (after k cpu).objects ≡ length k.objects + 1 = ap (λ (os : List Object). length os) is ∙ joined_length k.objects (object_of made) in absurd (omega (arith, same, more))

-- a turn of a boot state's run that leaves the objects as they are
pub level_after : (s : Scenario) (before : List ℕ) (cpu : ℕ) → (after (run (boot s) before) cpu).objects ≡ (run (boot s) before).objects → AreLevel (run (boot s) before) (after (run (boot s) before) cpu)
level_after s before cpu same = record {
  first = reached_sound s before;
  second = turn_sound (run (boot s) before) cpu (reached_sound s before);
  homed = reached_homed s before;
  homed_too = homed_next s before cpu;
  objects = same;
}

-- what is due is none of what is there
pub foreign_there : (k : KernelState) (P : ℕ → Bool) (what : Option Due) → IsForeign k (Of P) what → IsForeign k (Of (existing k P)) what
foreign_there k P what f = record { alarms = λ n a is at p. f.alarms n a is at (of_existing k P a.alarm.sm p); deadlines = λ n is p. f.deadlines n is (of_existing k P n p) }

pub left_whole : (s : Scenario) (before : List ℕ) (S P : ℕ → Bool) (T : ℕ → Type 0) (cpu : ℕ) →
    IsPartitioned (run (boot s) before) (Of (domains (run (boot s) before) S)) T (Of (existing (run (boot s) before) P)) →
    ((p : Passing) → IsPassing (run (boot s) before) cpu p → IsForeign (run (boot s) before) (Of (existing (run (boot s) before) P)) (due_in p)) →
    own_turn S (run (boot s) before) cpu ≡ None → length (after (run (boot s) before) cpu).objects ≡ length (run (boot s) before).objects → IsLeftAlone (run (boot s) before) (Of S) (Of P) cpu
left_whole s before S P T cpu c foreign none same =
    let k = run (boot s) before in
    let level = level_after s before cpu (unmade k cpu same) in
    let left = others_turn s before (domains k S) (existing k P) T cpu c (none_domains k S cpu none) foreign in
    record { same = whole_alike k (after k cpu) S P level left.same; side = whole_side k (after k cpu) S P level left.on.side }

-- ONE OF THE SIDE'S OWN

-- it is one of the domains that are there
pub own_domains : (S : ℕ → Bool) (k : KernelState) (cpu ec sc : ℕ) → IsSound k → own_turn S k cpu ≡ Some (ec, sc) → own_turn (domains k S) k cpu ≡ Some (ec, sc)
own_domains S k cpu ec sc sound own =
    ap (option_and_then (λ c. if_own (domains k S (pd_of k c.actor)) c)) its.next ∙ ap (λ (t : Bool). if_own t its.candidate) mine
    ∙ ap₂ (λ (n m : ℕ). Some (n, m)) its.actor its.payer
  where
    its : IsOwnTurn S k cpu ec sc
    its = own_is S k cpu ec sc own

    there : slice_get k.objects (pd_of k ec) ≡ Some Pd
    there = home_there k ec sound.kept.tables (ap is_some (actor_of k.contexts ec (is_able k cpu ec (own_acts S k cpu ec sc its))).there)

    mine : domains k S (pd_of k its.candidate.actor) ≡ true
    mine = ap (λ (n : ℕ). domains k S (pd_of k n)) its.actor ∙ in_domains k S (pd_of k ec) its.of there

pub gives_whole : (s : Scenario) (before : List ℕ) (S P : ℕ → Bool) (T : ℕ → Type 0) (cpu ec sc : ℕ) →
    IsPartitioned (run (boot s) before) (Of (domains (run (boot s) before) S)) T (Of (existing (run (boot s) before) P)) → own_turn S (run (boot s) before) cpu ≡ Some (ec, sc) →
    RevokesNothing (run (boot s) before) (Of S) → IsGivingWithin (run (boot s) before) (Of S) ec
gives_whole s before S P T cpu ec sc c own none = record {
  between = λ giver receiver gives. let sides = within.between giver receiver gives in (of_domains k S giver sides.0, of_domains k S receiver sides.1);
  unrevoked = record {
    own = none;
    lines = λ n range its d a state there mine above same. within.unrevoked.lines n range its d a state there (in_domains k S d.pd mine ((reached_homed s before).holders d there)) above same;
  };
}
  where
    k : KernelState
    k = run (boot s) before

    within : IsGivingWithin (run (boot s) before) (Of (domains (run (boot s) before) S)) ec
    within =
        within_partition (domains k S) (existing k P) T k cpu ec sc (reached_sound s before) c (own_domains S k cpu ec sc (reached_sound s before) own)
        (λ n range its state mine. none n range its state (of_domains k S (pd_of k n) mine))
