-- Stamps are below the next in whatever turns come to.
use Rattle.std.proofs.Common.{ℕ, zero, suc, ◌<◌, List, [], ◌∷◌, sym, subst, arith}
use Rattle.std.specs.Prelude.{slice_get, option_map}
use Rattle.nova_model.specs.Boot.{Image, Scenario, bare, boot, with_image, with_images}
use Rattle.nova_model.specs.Creation.{object_of}
use Rattle.nova_model.specs.Deeds.{deed}
use Rattle.nova_model.specs.Runs.{after, run}
use Rattle.nova_model.specs.Sources.{Source, with_source}
use Rattle.nova_model.specs.State.{KernelState}
use Rattle.nova_model.specs.Turn.{quantum_in}
use Rattle.nova_model.specs.declared.event.Event.{Event}
use Rattle.law_forest.proofs.Boots.{sources_keep}
use Rattle.law_forest.proofs.Turning.{after_keeps, run_keeps}
use Rattle.law_forest.specs.Effects.{joined, made_by}
use Rattle.law_forest.specs.Turns.{Acts, IsTurning, Passes, Turning, turned}
use Rattle.law_alike.specs.Alike.{AreStampsGiven}
use Rattle.law_alike.proofs.Paying.{same_end, turned_below}

given_turned : (k : KernelState) (cpu : ℕ) (t : Turning) (e : Event) → IsTurning k cpu t e → AreStampsGiven k → AreStampsGiven (turned k cpu t)
given_turned k cpu t e (Acts c chosen is event) given =
    subst (λ (u : Turning). AreStampsGiven (turned k cpu u)) (sym is)
    (turned_below k.budgets k.next_stamp c.sc (quantum_in (slice_get (joined k.objects (option_map object_of (made_by (deed k c.actor)))) c.sc)) (made_by (deed k c.actor)) given)
given_turned k cpu t e (Passes p comes is event) given = subst (λ (u : Turning). AreStampsGiven (turned k cpu u)) (sym is) given

pub given_after : (k : KernelState) (cpu : ℕ) → AreStampsGiven k → AreStampsGiven (after k cpu)
given_after k cpu given = after_keeps AreStampsGiven given_turned k cpu given

bare_given : (cpus ram consoles : ℕ) (root : _) → AreStampsGiven (bare cpus ram consoles root)
bare_given cpus ram consoles root zero = omega arith
bare_given cpus ram consoles root (suc zero) = omega arith
bare_given cpus ram consoles root (suc (suc zero)) = omega arith
bare_given cpus ram consoles root (suc (suc (suc n))) = omega arith

images_given : (k : KernelState) (images : List Image) → AreStampsGiven k → AreStampsGiven (with_images k images)
images_given k [] given = given
images_given k (image ∷ images) given = images_given (with_image k image) images given

source_given : (k : KernelState) (s : Source) → AreStampsGiven k → AreStampsGiven (with_source k s)
source_given k s given n = subst (λ (x : ℕ). x < k.next_stamp) (sym (same_end k.budgets n)) (given n)

boot_given : (s : Scenario) → AreStampsGiven (boot s)
boot_given s =
    sources_keep AreStampsGiven source_given (with_images (bare s.cpus s.ram s.consoles s.root) s.images) s.sources
    (images_given (bare s.cpus s.ram s.consoles s.root) s.images (bare_given s.cpus s.ram s.consoles s.root))

pub reached_given : (s : Scenario) (order : List ℕ) → AreStampsGiven (run (boot s) order)
reached_given s order = run_keeps AreStampsGiven given_after (boot s) order (boot_given s)
