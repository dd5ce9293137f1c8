-- The boot state has the sources of its scenario as alarms, none of which has rung.
use Rattle.std.proofs.Common.{◌≡◌, ℕ, zero, suc, ◌+◌, ◌<◌, List, [], ◌∷◌, ◌++◌, length, refl, ap, ap₂, ◌∙◌, arith}
use Rattle.std.specs.Prelude.{map, replicate, slice_get, slice_index, Some}
use Rattle.nova_model.specs.Boot.{Image, Scenario, bare, boot, with_image, with_images}
use Rattle.nova_model.specs.Sources.{Source, with_source, with_sources}
use Rattle.nova_model.specs.State.{KernelState}
use Rattle.nova_model.specs.Times.{Times, clock}
use Rattle.nova_model.specs.declared.times.Alarm.{Alarm}
use Rattle.nova_model.specs.declared.times.AlarmState.{AlarmState}
use Rattle.law_forest.proofs.Boots.{sources_keep}
use Rattle.law_turns.proofs.Setting.{joined_length}
use Rattle.law_turns.proofs.TablesFit.{boot_fits}
use Rattle.law_isolation.proofs.Ranges.{images_cpus, images_objects}
use Rattle.nova_gsi.specs.Firings.{alarms_from, alarms_of, unrung}
use Rattle.nova_gsi.proofs.Places.{IsAt}

pub joined_all : {T : Type 0} (xs : List T) (y : T) (ys : List T) → (xs ++ y ∷ []) ++ ys ≡ xs ++ y ∷ ys
joined_all [] y ys = refl
joined_all (x ∷ xs) y ys = ap (λ rest. x ∷ rest) (joined_all xs y ys)

pub nothing_more : {T : Type 0} (xs : List T) → xs ≡ xs ++ []
nothing_more [] = refl
nothing_more (x ∷ xs) = ap (λ rest. x ∷ rest) (nothing_more xs)

sources_alarms : (k : KernelState) (sources : List Source) → (with_sources k sources).times.alarms ≡ k.times.alarms ++ map unrung (alarms_from (length k.objects) sources)
sources_alarms k [] = nothing_more k.times.alarms
sources_alarms k (s ∷ sources) =
    sources_alarms (with_source k s) sources
    ∙ ap (λ (sm : ℕ). (with_source k s).times.alarms ++ map unrung (alarms_from sm sources)) (joined_length k.objects _)
    ∙ joined_all k.times.alarms _ (map unrung (alarms_from (length k.objects + 1) sources))

pub images_alarms : (k : KernelState) (images : List Image) → (with_images k images).times ≡ k.times
images_alarms k [] = refl
images_alarms k (image ∷ images) = images_alarms (with_image k image) images

pub boot_alarms : (s : Scenario) → (boot s).times.alarms ≡ map unrung (alarms_of s)
boot_alarms s =
    let k = with_images (bare s.cpus s.ram s.consoles s.root) s.images in
    sources_alarms k s.sources
    ∙ ap₂ (λ (alarms : List AlarmState) (sm : ℕ). alarms ++ map unrung (alarms_from sm s.sources))
    (ap (λ (t : Times). t.alarms) (images_alarms (bare s.cpus s.ram s.consoles s.root) s.images))
    (ap length (images_objects (bare s.cpus s.ram s.consoles s.root) s.images))

zeros : (n i : ℕ) → slice_index (replicate n 0) i ≡ 0
zeros zero i = refl
zeros (suc n) zero = refl
zeros (suc n) (suc i) = zeros n i

pub boot_clock : (s : Scenario) (cpu : ℕ) → clock (boot s).times cpu ≡ 0
boot_clock s =
    sources_keep (λ (k : KernelState). (cpu : ℕ) → clock k.times cpu ≡ 0) (λ k source h. h) (with_images (bare s.cpus s.ram s.consoles s.root) s.images) s.sources
    (λ cpu. ap (λ (t : Times). clock t cpu) (images_alarms (bare s.cpus s.ram s.consoles s.root) s.images) ∙ zeros s.cpus cpu)

pub boot_cpus : (s : Scenario) → (boot s).cpus ≡ s.cpus
boot_cpus s =
    sources_keep (λ (k : KernelState). k.cpus ≡ s.cpus) (λ k source h. h) (with_images (bare s.cpus s.ram s.consoles s.root) s.images) s.sources
    (images_cpus (bare s.cpus s.ram s.consoles s.root) s.images)

pub get_map : {A B : Type 0} (f : A → B) (xs : List A) (n : ℕ) (x : A) → slice_get xs n ≡ Some x → slice_get (map f xs) n ≡ Some (f x)
get_map f [] n x there = absurd cc
get_map f (y ∷ xs) zero x there = let same : y ≡ x = cc in ap (λ z. Some (f z)) same
get_map f (y ∷ xs) (suc n) x there = get_map f xs n x there

pub boot_at : (scenario : Scenario) (n : ℕ) (s : Alarm) → slice_get (alarms_of scenario) n ≡ Some s → s.cpu < scenario.cpus → IsAt s n (boot scenario) 0 0
boot_at scenario n s there processor = record {
  alarm = unrung s;
  there = ap (λ (xs : List AlarmState). slice_get xs n) (boot_alarms scenario) ∙ get_map unrung (alarms_of scenario) n s there;
  its = refl;
  rung = refl;
  next = omega arith;
  most = omega arith;
  clock = boot_clock scenario s.cpu;
  processor = let clocks = (boot_fits scenario).tables.clocks in let cpus = boot_cpus scenario in omega (arith, clocks, cpus, processor);
  past = λ j below. absurd (omega (arith, below));
}
