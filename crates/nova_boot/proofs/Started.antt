-- What a scenario's kernel begins with, beside its memory.
use Rattle.std.proofs.Common.{◌≡◌, ℕ, List, [], ◌∷◌, refl, ◌∙◌}
use Rattle.nova_model.specs.Boot.{Image, Scenario, bare, boot, with_image, with_images}
use Rattle.nova_model.specs.Sources.{Source, with_source, with_sources}
use Rattle.nova_model.specs.State.{KernelState}
use Rattle.law_isolation.proofs.Ranges.{images_cpus}

images_turns : (k : KernelState) (images : List Image) → (with_images k images).turns ≡ k.turns
images_turns k [] = refl
images_turns k (image ∷ images) = images_turns (with_image k image) images

sources_turns : (k : KernelState) (sources : List Source) → (with_sources k sources).turns ≡ k.turns
sources_turns k [] = refl
sources_turns k (s ∷ sources) = sources_turns (with_source k s) sources

sources_cpus : (k : KernelState) (sources : List Source) → (with_sources k sources).cpus ≡ k.cpus
sources_cpus k [] = refl
sources_cpus k (s ∷ sources) = sources_cpus (with_source k s) sources

-- no turn was taken, and the processors are the scenario's
pub boot_turns : (s : Scenario) → (boot s).turns ≡ 0
boot_turns s =
    let k = with_images (bare s.cpus s.ram s.consoles s.root) s.images in
    sources_turns k s.sources ∙ images_turns (bare s.cpus s.ram s.consoles s.root) s.images

pub boot_cpus : (s : Scenario) → (boot s).cpus ≡ s.cpus
boot_cpus s =
    let k = with_images (bare s.cpus s.ram s.consoles s.root) s.images in
    sources_cpus k s.sources ∙ images_cpus (bare s.cpus s.ram s.consoles s.root) s.images
