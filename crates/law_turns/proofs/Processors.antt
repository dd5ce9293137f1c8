-- A turn leaves the number of processors.
use Rattle.std.proofs.Common.{◌≡◌, ℕ, List, refl}
use Rattle.nova_model.specs.Runs.{after, run}
use Rattle.nova_model.specs.State.{KernelState}
use Rattle.law_forest.proofs.Turning.{after_keeps, run_keeps}

pub after_cpus : (k : KernelState) (cpu : ℕ) → (after k cpu).cpus ≡ k.cpus
after_cpus k cpu = after_keeps (λ (s : KernelState). s.cpus ≡ k.cpus) (λ s c t e is h. h) k cpu refl

pub run_cpus : (k : KernelState) (order : List ℕ) → (run k order).cpus ≡ k.cpus
run_cpus k order = run_keeps (λ (s : KernelState). s.cpus ≡ k.cpus) (λ s cpu h. after_keeps (λ (u : KernelState). u.cpus ≡ k.cpus) (λ u c t e is same. same) s cpu h) k order refl
