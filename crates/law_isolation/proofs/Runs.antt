-- What always holds of a state is kept by turns, and so the law of one turn becomes one of runs.
use Rattle.std.proofs.Common.{◌≡◌, ◌≢◌, ℕ, zero, suc, List, [], ◌∷◌, ◌++◌, ap, ap₂, sym, ◌∙◌, refl}
use Rattle.std.specs.Prelude.{true, Option, Some, None, option_map, slice_get}
use Rattle.law_forest.specs.Made.{Grows, Leaves, MakesObject, GivesChild, TakesLeaf}
use Rattle.law_forest.proofs.Boots.{boot_forest}
use Rattle.law_forest.proofs.Changes.{change_forest, turn_change}
use Rattle.law_forest.proofs.Growth.{turn_growth}
use Rattle.nova_guest.specs.Alone.{alone, guest_space}
use Rattle.nova_guest.specs.declared.guest.Guest.{Guest}
use Rattle.nova_guest.specs.declared.input.Input.{Input}
use Rattle.law_turns.proofs.Donation.{keeps, reached_kept}
use Rattle.nova_model.specs.AddressSpaces.{space}
use Rattle.nova_model.specs.Boot.{Scenario, boot}
use Rattle.nova_model.specs.Capabilities.{is_vcpu}
use Rattle.nova_model.specs.Choice.{in_front}
use Rattle.nova_model.specs.Deeds.{address_space, deed, done}
use Rattle.nova_model.specs.Guests.{input, inputs}
use Rattle.nova_model.specs.Runs.{after, run}
use Rattle.nova_model.specs.State.{KernelState}
use Rattle.nova_model.specs.Views.{view}
use Rattle.nova_objects.specs.declared.object.Object.{Object}
use Rattle.law_isolation.specs.Law.{IsOneInput, IsOneTurn, answered}
use Rattle.law_isolation.specs.Sound.{IsSound, IsVirtual}
use Rattle.law_isolation.proofs.Premises.{guest, premises}
use Rattle.law_isolation.proofs.Outputs.{guest_sees}
use Rattle.law_isolation.proofs.OwnTurns.{own_turn}
use Rattle.law_isolation.proofs.Turns.{one_turn, other_turn}
use Rattle.law_isolation.proofs.Whole.{boot_whole, turn_whole}

-- a kernel begins so
pub boot_sound : (s : Scenario) → IsSound (boot s)
boot_sound s = record {
  forest = boot_forest s;
  kept = reached_kept s [];
  whole = boot_whole s;
}

-- and turns keep it
pub turn_sound : (k : KernelState) (cpu : ℕ) → IsSound k → IsSound (after k cpu)
turn_sound k cpu sound = record {
  forest = change_forest k.delegations (after k cpu).delegations (turn_change k cpu sound.forest) sound.forest;
  kept = keeps k cpu sound.kept;
  whole = turn_whole k cpu sound.whole;
}

pub run_sound : (k : KernelState) (turns : List ℕ) → IsSound k → IsSound (run k turns)
run_sound k [] sound = sound
run_sound k (cpu ∷ turns) sound = run_sound (after k cpu) turns (turn_sound k cpu sound)

pub reached_sound : (s : Scenario) (turns : List ℕ) → IsSound (run (boot s) turns)
reached_sound s turns = run_sound (boot s) turns (boot_sound s)

-- a virtual CPU stays one
object_stays : (os ps : List Object) (g : ℕ) → option_map is_vcpu (slice_get os g) ≡ Some true → option_map is_vcpu (slice_get (os ++ ps) g) ≡ Some true
object_stays [] ps g is = absurd (cc)
object_stays (o ∷ os) ps zero is = is
object_stays (o ∷ os) ps (suc g) is = object_stays os ps g is

virtual_in : (os ps : List Object) (g : ℕ) → ps ≡ os → option_map is_vcpu (slice_get os g) ≡ Some true → option_map is_vcpu (slice_get ps g) ≡ Some true
virtual_in os ps g same is = ap (λ (qs : List Object). option_map is_vcpu (slice_get qs g)) same ∙ is

pub turn_virtual : (k : KernelState) (cpu g : ℕ) → IsVirtual k g → IsVirtual (after k cpu) g
turn_virtual k cpu g is = let turn = turn_growth k cpu in by_growth turn.ec turn.grows
  where
    by_growth : (ec : ℕ) → Grows k ec (after k cpu) → IsVirtual (after k cpu) g
    by_growth ec (Leaves same) = virtual_in k.objects (after k cpu).objects g same.objects is
    by_growth ec (MakesObject made) = virtual_in (k.objects ++ made.object ∷ []) (after k cpu).objects g made.objects (object_stays k.objects (made.object ∷ []) g is)
    by_growth ec (GivesChild given) = virtual_in k.objects (after k cpu).objects g given.objects is
    by_growth ec (TakesLeaf taken) = virtual_in k.objects (after k cpu).objects g taken.objects is

pub turn_is_one : (k : KernelState) (cpu g : ℕ) → IsSound k → IsVirtual k g → IsOneTurn k cpu g
turn_is_one k cpu g sound is = one_turn k cpu g (premises k sound) (guest k g sound is)

-- A RUN

alone_front : (v : Guest) (i : Option Input) (is : List Input) → alone v (in_front i is) ≡ alone (answered v i).guest is
alone_front v None is = refl
alone_front v (Some i) is = refl

pub run_alone : (k : KernelState) (turns : List ℕ) (g : ℕ) → IsSound k → IsVirtual k g → view (run k turns) g ≡ alone (view k g) (inputs k turns g)
run_alone k [] g sound is = refl
run_alone k (cpu ∷ turns) g sound is =
    run_alone (after k cpu) turns g (turn_sound k cpu sound) (turn_virtual k cpu g is)
    ∙ (ap (λ (v : Guest). alone v (inputs (after k cpu) turns g)) (turn_is_one k cpu g sound is).guest
    ∙ sym (alone_front (view k g) (input k cpu g) (inputs (after k cpu) turns g)))

-- two runs
pub two_runs : (k l : KernelState) (turns others : List ℕ) (g h : ℕ) → IsSound k → IsSound l → IsVirtual k g → IsVirtual l h →
    view k g ≡ view l h → inputs k turns g ≡ inputs l others h → view (run k turns) g ≡ view (run l others) h
two_runs k l turns others g h sound sound_ is is_ views same = run_alone k turns g sound is ∙ (ap₂ alone views same ∙ sym (run_alone l others h sound_ is_))

-- WITH WHAT ALWAYS HOLDS

pub space_is_own : (k : KernelState) (g : ℕ) → IsSound k → IsVirtual k g → space (address_space k g) ≡ guest_space (view k g).maps (view k g).cells
space_is_own k g sound is = guest_sees k g (premises k sound) (guest k g sound is)

pub own_is_one : (k : KernelState) (g : ℕ) → IsSound k → IsVirtual k g → IsOneInput k (done k g (deed k g)) g g (deed k g)
own_is_one k g sound is = own_turn k g (premises k sound) (guest k g sound is)

pub other_is_one : (k : KernelState) (ec g : ℕ) → IsSound k → IsVirtual k g → ec ≢ g → IsOneInput k (done k ec (deed k ec)) ec g (deed k ec)
other_is_one k ec g sound is ne = other_turn k ec g (premises k sound) (guest k g sound is) ne
