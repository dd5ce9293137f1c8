-- Turns that are admitted leave a side's part alone, or come to no more than their entries; so do turns in which nobody acts.
use Rattle.std.proofs.Common.{◌≡◌, ℕ, List, [], ◌∷◌, ◌++◌, refl, sym, ap, ◌∙◌, subst}
use Rattle.std.specs.Prelude.{Bool, true, false, Contains, IsSome, slice_get, option_and_then, Option, Some, None}
use Rattle.std.proofs.lemmas.Option.{slice_get_within}
use Rattle.nova_objects.specs.declared.object.Object.{Object}
use Rattle.nova_model.specs.Boot.{Scenario, boot}
use Rattle.nova_model.specs.Choice.{Candidate, next_to_act}
use Rattle.nova_model.specs.Delegations.{Delegations}
use Rattle.nova_model.specs.Runs.{after, run}
use Rattle.nova_model.specs.State.{KernelState}
use Rattle.law_forest.specs.Effects.{Passing}
use Rattle.law_forest.specs.Turns.{Acts as Chosen, Idles, IsPassing, Passes, Takes, passing, turned}
use Rattle.law_forest.proofs.Turning.{comes}
use Rattle.law_turns.proofs.TablesFit.{boot_run_fits}
use Rattle.law_isolation.proofs.Runs.{reached_sound, turn_sound}
use Rattle.law_origins.proofs.Actors.{object_stays}
use Rattle.law_origins.proofs.Lists.{run_append}
use Rattle.law_integrity.specs.Confined.{Of}
use Rattle.law_integrity.specs.Integrity.{IsByTime}
use Rattle.law_integrity.proofs.Passing.{coming, due_in, turned_by_time}
use Rattle.law_flow.specs.Flow.{AreAlike, AreAtWorkTimeless, AreCreatingAlone, AreGivingWithin, AreRevokingWithin, DerivesWithin, HasSameClock, IsAtWork, IsLeftAlone, IsSide, IsTimeless, RevokesNothing, own_turn, fixed}
use Rattle.law_flow.proofs.Pairs.{never}
use Rattle.law_flow.proofs.Deriving.{revoking_itself}
use Rattle.law_flow.proofs.Leaving.{some_there}
use Rattle.law_flow.proofs.Others.{side_left, time_leaves, timeless_foreign}
use Rattle.law_flow.proofs.Turns.{AreTwins, alike_itself, own_is, own_side, own_there, working_both}
use Rattle.law_service.specs.Service.{AreAdmitted, AreServed, ByComputing, ByGift, ByNobody, ByStranger, Entry, IsAdmitted, IsServedBy, entry_by, entry_in}
use Rattle.law_service.proofs.Computing.{computing}
use Rattle.law_service.proofs.Deriving.{admitted_derives, own_derives_too}
use Rattle.law_service.proofs.Giving.{gives}
use Rattle.law_service.proofs.Strangers.{strangers}

-- NOBODY ACTS

passing_alone : (s : Scenario) (before : List ℕ) (S P : ℕ → Bool) (cpu : ℕ) → IsSide (run (boot s) before) (Of S) (Of P) → ((n : ℕ) → P n ≡ true → IsSome (slice_get (run (boot s) before).objects n)) →
    next_to_act (run (boot s) before) cpu ≡ None → IsTimeless (run (boot s) before) (Of P) → IsLeftAlone (run (boot s) before) (Of S) (Of P) cpu
passing_alone s before S P cpu side there nobody timeless = elim (comes (run (boot s) before) cpu) [
  | Idles none quiet same answer ↦ record {
    same = subst (λ (l : KernelState). AreAlike (run (boot s) before) l (Of S) (Of P)) (sym same) (alike_itself (run (boot s) before) S P);
    side = subst (λ (l : KernelState). IsSide l (Of S) (Of P)) (sym same) side;
  }
  | Takes t e is state answer ↦ elim is [
    | Chosen d chosen its event ↦ absurd (let both : ◌≡◌ {A = Option Candidate} None (Some d) = sym nobody ∙ chosen in cc)
    | Passes p due its event ↦ by_time p due (state ∙ ap (turned (run (boot s) before) cpu) its)
  ]
]
  where
    by_time : (p : Passing) → IsPassing (run (boot s) before) cpu p → after (run (boot s) before) cpu ≡ turned (run (boot s) before) cpu (passing (run (boot s) before) p) →
        IsLeftAlone (run (boot s) before) (Of S) (Of P) cpu
    by_time p due is =
        let k = run (boot s) before in
        let t : IsByTime (run (boot s) before) (after (run (boot s) before) cpu) cpu (due_in p) =
        subst (λ (l : KernelState). IsByTime (run (boot s) before) l cpu (due_in p)) (sym is) (turned_by_time k cpu p due (boot_run_fits s before)) in
        let alike : AreAlike (run (boot s) before) (after (run (boot s) before) cpu) (Of S) (Of P) =
        time_leaves k (after k cpu) (Of S) (Of P) cpu (due_in p) (reached_sound s before) (turn_sound k cpu (reached_sound s before)) side there
        (timeless_foreign k (Of P) cpu (due_in p) timeless (coming k cpu p due)) t in
        record {
          same = alike;
          side = side_left k (after k cpu) (Of S) (Of P) alike side (λ d here its. subst (λ (f : Delegations). Contains f.list d) t.delegations here)
              (λ n pd on kind event at its. side.members n pd on kind event (sym (ap (λ (os : List Object). slice_get os n) t.objects) ∙ at) its);
        }

pub nobody_served : (s : Scenario) (before : List ℕ) (S P : ℕ → Bool) (cpu : ℕ) → IsSide (run (boot s) before) (Of S) (Of P) → ((n : ℕ) → P n ≡ true → IsSome (slice_get (run (boot s) before).objects n)) →
    next_to_act (run (boot s) before) cpu ≡ None → IsTimeless (run (boot s) before) (Of P) → IsServedBy (run (boot s) before) (Of S) (Of P) cpu (entry_in S P (run (boot s) before) cpu)
nobody_served s before S P cpu side there nobody timeless =
    subst (λ (o : Option Candidate). IsServedBy (run (boot s) before) (Of S) (Of P) cpu (option_and_then (entry_by S P (run (boot s) before)) o)) (sym nobody)
    (passing_alone s before S P cpu side there nobody timeless)

-- ADMITTED TURNS

admits : (s : Scenario) (before : List ℕ) (S P : ℕ → Bool) (cpu : ℕ) → IsSide (run (boot s) before) (Of S) (Of P) → ((n : ℕ) → P n ≡ true → IsSome (slice_get (run (boot s) before).objects n)) →
    own_turn S (run (boot s) before) cpu ≡ None → IsAdmitted (run (boot s) before) S P cpu → IsServedBy (run (boot s) before) (Of S) (Of P) cpu (entry_in S P (run (boot s) before) cpu)
admits s before S P cpu side there none (ByStranger ec acts_ stranger) = strangers s before S P cpu ec side there acts_ stranger
admits s before S P cpu side there none (ByGift e is some) =
    subst (IsServedBy (run (boot s) before) (Of S) (Of P) cpu) (sym is) (gives (run (boot s) before) S P cpu e (reached_sound s before) side is some)
admits s before S P cpu side there none (ByComputing ec acts_ steps walled) = computing (run (boot s) before) S P cpu ec side none acts_ steps walled
admits s before S P cpu side there none (ByNobody nobody timeless) = nobody_served s before S P cpu side there nobody timeless

served_side : (k : KernelState) (S P : ℕ → Type 0) (cpu : ℕ) (o : Option Entry) → IsServedBy k S P cpu o → IsSide (after k cpu) S P
served_side k S P cpu None served = served.side
served_side k S P cpu (Some e) served = served.side

pub served_along : (revokes : Bool) (s : Scenario) (before turns : List ℕ) (S P : ℕ → Bool) → IsSide (run (boot s) before) (Of S) (Of P) → ((n : ℕ) → P n ≡ true → IsSome (slice_get (run (boot s) before).objects n)) →
    (revokes ≡ true → DerivesWithin (run (boot s) before) (Of S)) → AreAdmitted S P (run (boot s) before) turns → AreAtWorkTimeless (fixed revokes) S (run (boot s) before) turns → AreServed revokes S P (run (boot s) before) turns
served_along revokes s before [] S P side there within admitted works = tt
served_along revokes s before (cpu ∷ turns) S P side there within admitted works = (
  λ none. admits s before S P cpu side there none (admitted.0 none),
  admitted.1,
  within,
  by_own (own_turn S (run (boot s) before) cpu) refl (λ later derives. subst (λ (l : KernelState). AreAdmitted S P l turns → AreAtWorkTimeless (fixed revokes) S l turns → AreServed revokes S P l turns) next
      (λ admitted_later works_later. served_along revokes s (before ++ cpu ∷ []) turns S P (subst (λ (l : KernelState). IsSide l (Of S) (Of P)) (sym next) later)
      (λ n p. subst (λ (l : KernelState). IsSome (slice_get l.objects n)) (sym next) (stays_there n p))
      (λ yes. subst (λ (l : KernelState). DerivesWithin l (Of S)) (sym next) (derives yes)) admitted_later works_later) admitted.2 works.1),
)
  where
    next : run (boot s) (before ++ cpu ∷ []) ≡ after (run (boot s) before) cpu
    next = run_append (boot s) before (cpu ∷ [])

    stays_there : (n : ℕ) → P n ≡ true → IsSome (slice_get (after (run (boot s) before) cpu).objects n)
    stays_there n p =
        let o = some_there (slice_get (run (boot s) before).objects n) (there n p) in
        subst IsSome (sym (object_stays (run (boot s) before) cpu n (slice_get_within (run (boot s) before).objects n o.0 o.1))) (there n p)

    by_own : (o : Option (ℕ × ℕ)) → own_turn S (run (boot s) before) cpu ≡ o →
        (IsSide (after (run (boot s) before) cpu) (Of S) (Of P) → (revokes ≡ true → DerivesWithin (after (run (boot s) before) cpu) (Of S)) → AreServed revokes S P (after (run (boot s) before) cpu) turns) →
        AreServed revokes S P (after (run (boot s) before) cpu) turns
    by_own None is later =
        later (served_side (run (boot s) before) (Of S) (Of P) cpu (entry_in S P (run (boot s) before) cpu) (admits s before S P cpu side there is (admitted.0 is)))
        (λ yes. admitted_derives s before S P cpu (within yes) (admitted.0 is))
    by_own (Some p) is later =
        let k = run (boot s) before in
        let sound = reached_sound s before in
        let twins : AreTwins k k S P = record { side = side; alike = alike_itself k S P; first = sound; second = sound } in
        let its = own_is S k cpu p.0 p.1 is in
        let working : IsAtWork (HasSameClock k k p.0) (AreGivingWithin k k (Of S) p.0) (AreRevokingWithin k k (Of S)) (AreCreatingAlone k k (Of S) (Of P)) k p.0 =
        working_both (RevokesNothing k (Of S)) (revokes ≡ true) (false ≡ true) k k S P p.0 twins (own_there S k (Of P) cpu p.0 p.1 sound side its) its.of (works.0 p.0 p.1 is) (admitted.1 p.0 p.1 is) (admitted.1 p.0 p.1 is)
        (λ yes. revoking_itself k (Of S) sound (within yes)) (λ h. absurd (never h)) in
        later (own_side k k S P cpu p.0 p.1 twins is working) (λ yes. own_derives_too k S P cpu p.0 p.1 twins is working (within yes))
