-- What runs was called.
use Rattle.nova_model.specs.declared.context.EcState.{EcState}
use Rattle.law_turns.proofs.Setting.{more_at}
use Rattle.law_forest.proofs.Boots.{sources_keep}
use Rattle.std.proofs.Common.{◌≡◌, ℕ, zero, suc, List, [], ◌∷◌, ap, sym, ◌∙◌, inl, inr, refl}
use Rattle.std.specs.Prelude.{◌≢◌, ◌⊎◌, Some, None, Option, option_and_then}
use Rattle.std.proofs.lemmas.Bool.{eq-eqb}
use Rattle.nova_calls.specs.declared.numbers.TheConstants.{REVOKE}
use Rattle.nova_range.specs.Statuses.{status_code}
use Rattle.nova_range.specs.declared.status.Status.TheVariants.{Success}
use Rattle.nova_model.specs.Boot.{Image, Scenario, bare, boot, with_image, with_images}
use Rattle.nova_model.specs.Deeds.{deed}
use Rattle.nova_model.specs.Revokes.{Revocation}
use Rattle.nova_model.specs.Running.{revoke_of, revoke_by}
use Rattle.nova_model.specs.Runs.{after, run}
use Rattle.nova_model.specs.State.{KernelState, pd_of}
use Rattle.nova_model.specs.declared.deed.Deed.{Deed}
use Rattle.nova_model.specs.declared.deed.Deed.TheVariants.{Returns, Revokes}
use Rattle.nova_model.specs.declared.event.EventKind.TheVariants.{Answer}
use Rattle.nova_model.specs.declared.root.Root.{Root}
use Rattle.law_turns.specs.Revoking.{AreCalm as AreIdle, revoke_after}
use Rattle.law_turns.proofs.Revoking.{begins_asked}
use Rattle.law_revocation.specs.Along.{HasEvent, Runs}
use Rattle.law_revocation.specs.Called.{HasEndedAsCalled, WasCalled}
use Rattle.law_revocation.specs.Sound.{IsKeptForest}
use Rattle.law_revocation.specs.Whole.{RevokeBegins, HasEnded}
use Rattle.law_revocation.proofs.Ending.{begun, none_some, reached_told}
use Rattle.law_revocation.proofs.Kept.{boot_sound, turn_sound}
use Rattle.law_revocation.proofs.Shrinking.{runs_now}
use Rattle.law_revocation.proofs.Turns.{HasPart, Another, Itself, its_revoke, part_of, stays_apart}

-- what runs after a turn ran before it, or the turn began it
came : (k : KernelState) (cpu ec : ℕ) (r : Revocation) → IsKeptForest k → revoke_of (after k cpu) ec ≡ Some r →
    (revoke_of k ec ≡ Some r) ⊎ (revoke_of k ec ≢ Some r)
came k cpu ec r sound now = by_part (part_of k cpu ec)
  where
    by_deed : (d : Deed) → deed k ec ≡ d → revoke_after k ec d ec ≡ Some r → (revoke_of k ec ≡ Some r) ⊎ (revoke_of k ec ≢ Some r)
    by_deed (Revokes range own) does is = inr (λ runs. none_some r (sym (begins_asked k ec range own does).idle ∙ runs))
    by_deed Returns does is =
        let none : revoke_after k ec Returns ec ≡ None = rw (eq-eqb ec ec refl) refl in
        absurd (none_some r (sym none ∙ is))
    by_deed other does is = inl is

    by_part : HasPart k cpu ec → (revoke_of k ec ≡ Some r) ⊎ (revoke_of k ec ≢ Some r)
    by_part (Itself acts one) = by_deed (deed k ec) refl (sym (its_revoke k cpu ec (deed k ec) sound.kept acts refl) ∙ now)
    by_part (Another another none) = inl (sym (stays_apart k cpu ec sound.kept another) ∙ now)

-- what runs after turns ran in all of them, or one of them began it
since : (k : KernelState) (turns : List ℕ) (ec : ℕ) (r : Revocation) → IsKeptForest k → revoke_of (run k turns) ec ≡ Some r → Runs k ec r turns ⊎ WasCalled k turns ec r
since k [] ec r sound now = inl now
since k (cpu ∷ turns) ec r sound now = by_rest (since (after k cpu) turns ec r (turn_sound k cpu sound) now)
  where
    by_turn : Runs (after k cpu) ec r turns → (revoke_of k ec ≡ Some r) ⊎ (revoke_of k ec ≢ Some r) → Runs k ec r (cpu ∷ turns) ⊎ WasCalled k (cpu ∷ turns) ec r
    by_turn runs (inl ran) = inl (ran, runs)
    by_turn runs (inr not_yet) =
        let begins : RevokeBegins k cpu ec r = (not_yet, runs_now (after k cpu) ec r turns runs) in
        inr (record { before = []; first = cpu; between = turns; whole = refl; begins = begins; call = begun k cpu ec r sound begins; runs = runs })

    by_rest : Runs (after k cpu) ec r turns ⊎ WasCalled (after k cpu) turns ec r → Runs k ec r (cpu ∷ turns) ⊎ WasCalled k (cpu ∷ turns) ec r
    by_rest (inl runs) = by_turn runs (came k cpu ec r sound (runs_now (after k cpu) ec r turns runs))
    by_rest (inr c) = inr (record {
      before = cpu ∷ c.before;
      first = c.first;
      between = c.between;
      whole = ap (λ (l : List ℕ). cpu ∷ l) c.whole;
      begins = c.begins;
      call = c.call;
      runs = c.runs;
    })

pub called : (k : KernelState) (turns : List ℕ) (ec : ℕ) (r : Revocation) → IsKeptForest k → revoke_of k ec ≡ None → revoke_of (run k turns) ec ≡ Some r → WasCalled k turns ec r
called k turns ec r sound none now = by_since (since k turns ec r sound now)
  where
    by_since : Runs k ec r turns ⊎ WasCalled k turns ec r → WasCalled k turns ec r
    by_since (inl runs) = absurd (none_some r (sym none ∙ runs_now k ec r turns runs))
    by_since (inr c) = c

-- at boot none runs
bare_none : (cpus ram consoles : ℕ) (root : Root) → AreIdle (bare cpus ram consoles root)
bare_none cpus ram consoles root pd zero = refl
bare_none cpus ram consoles root pd (suc zero) = refl
bare_none cpus ram consoles root pd (suc (suc zero)) = refl
bare_none cpus ram consoles root pd (suc (suc (suc ec))) = refl

images_none : (k : KernelState) (images : List Image) → AreIdle k → AreIdle (with_images k images)
images_none k [] none = none
images_none k (image ∷ images) none = images_none (with_image k image) images none

boot_none : (s : Scenario) (ec : ℕ) → revoke_of (boot s) ec ≡ None
boot_none s ec =
    sources_keep AreIdle (λ k source none pd n. more_at (λ (o : Option EcState). option_and_then (λ (x : EcState). revoke_by pd x.state) o ≡ None) k.contexts None n (none pd n) (λ old. old))
    (with_images (bare s.cpus s.ram s.consoles s.root) s.images) s.sources (images_none (bare s.cpus s.ram s.consoles s.root) s.images (bare_none s.cpus s.ram s.consoles s.root))
    (pd_of (boot s) ec) ec

pub reached_called : (s : Scenario) (turns : List ℕ) (ec : ℕ) (r : Revocation) → revoke_of (run (boot s) turns) ec ≡ Some r → WasCalled (boot s) turns ec r
reached_called s turns ec r now = called (boot s) turns ec r (boot_sound s) (boot_none s ec) now

pub ended_called : (s : Scenario) (turns : List ℕ) (cpu ec : ℕ) → HasEvent (run (boot s) turns) cpu ec Answer REVOKE (status_code Success) →
    HasEndedAsCalled (boot s) turns cpu ec
ended_called s turns cpu ec h =
    let it : HasEnded (run (boot s) turns) cpu ec = reached_told s turns cpu ec h in
    record { revoke = it.revoke; called = reached_called s turns ec it.revoke it.ends.0; ends = it.ends; returned = it.returned }
