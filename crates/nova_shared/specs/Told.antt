-- What a turn of a shared kernel tells, of the state that it began in, how many turns there may be, the processor, and the order of turns as it
-- was found and as it was left.
use Rattle.std.specs.Prelude.{◌≡◌, ℕ, ◌+◌, ◌<◌, ◌≤◌, List, [], ◌∷◌, ◌++◌, length, IsSome, None}
use Rattle.nova_kernel.specs.Views.{IsMaking}
use Rattle.nova_model.specs.State.{KernelState}
use Rattle.nova_model.specs.Turn.{turn}
use Rattle.nova_model.specs.Runs.{run}
use Rattle.nova_shared.specs.declared.shared_run.SharedTurn.{SharedTurn}
use Rattle.nova_shared.specs.declared.shared_run.SharedTurn.TheVariants.{Stepped, Idle, AtLimit}

abbrev pub IsTold : KernelState → ℕ → ℕ → List ℕ → List ℕ → SharedTurn → Type 0
IsTold k most cpu found left (Stepped n) = (left ≡ found ++ cpu ∷ []) × (n ≡ length found + 1) × (n ≤ most) × IsSome (turn (run k found) cpu)
IsTold k most cpu found left (Idle n) = (left ≡ found) × (n ≡ length found) × (n < most) × (turn (run k found) cpu ≡ None)
IsTold k most cpu found left (AtLimit n) = (left ≡ found) × (n ≡ length found) × (n ≡ most)

-- memory was refused to a turn that makes an object or a derivation
abbrev pub IsRefused : KernelState → ℕ → ℕ → List ℕ → List ℕ → Type 0
IsRefused k most cpu found left = (left ≡ found) × (length found < most) × IsMaking (run k found) cpu

-- where no turn was taken though there may be as many as are left, the processor is idle, or memory was refused to a turn that makes an object or a
-- derivation
abbrev pub HasNone : KernelState → ℕ → ℕ → Type 0
HasNone k left cpu = 0 < left → IsSome (turn k cpu) → IsMaking k cpu
