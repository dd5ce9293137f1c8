-- Runs: the turns of a list of processors, one after another.
use Rattle.std.specs.Prelude.{ℕ, zero, suc, ◌+◌, ◌-◌, List, [], ◌∷◌, ◌++◌, length, is_some, IsSome, option_map, if◌then◌else◌}
use Rattle.nova_model.specs.Numbers.{CpuId}
use Rattle.nova_model.specs.State.{KernelState}
use Rattle.nova_model.specs.Choice.{in_front}
use Rattle.nova_model.specs.Turn.{turn, state_after}
use Rattle.nova_model.specs.declared.event.Event.{Event}

-- the state after one turn
abbrev pub after : KernelState → CpuId → KernelState
after k cpu = state_after k (turn k cpu)

-- the state after the turns of these processors, in order
abbrev pub run : KernelState → List CpuId → KernelState
run k [] = k
run k (cpu ∷ cpus) = run (after k cpu) cpus

-- their events; an idle turn has none
abbrev pub trace : KernelState → List CpuId → List Event
trace k [] = []
trace k (cpu ∷ cpus) = in_front (option_map (λ s. s.event) (turn k cpu)) (trace (after k cpu) cpus)

-- each processor has a turn to take when its place in the order comes
abbrev pub IsFreeOfIdle : KernelState → List CpuId → Type 0
IsFreeOfIdle k [] = Unit {0}
IsFreeOfIdle k (cpu ∷ order) = IsSome (turn k cpu) × IsFreeOfIdle (after k cpu) order

-- a pass over `count` processors from `cpu` on: one turn of each that is not idle, at most `most` turns
abbrev pub pass : KernelState → CpuId → ℕ → ℕ → List CpuId
pass k cpu zero most = []
pass k cpu (suc count) zero = []
pass k cpu (suc count) (suc most) =
    if is_some (turn k cpu) then cpu ∷ pass (after k cpu) (cpu + 1) count most else pass k (cpu + 1) count (suc most)

-- passes over all processors. A pass that takes no turn leaves all as it was, so that no later one takes any.
abbrev pub passes : ℕ → KernelState → ℕ → List CpuId
passes zero k most = []
passes (suc n) k most =
    pass k 0 k.cpus most ++ passes n (run k (pass k 0 k.cpus most)) (most - length (pass k 0 k.cpus most))

-- round robin: passes until one takes no turn or `most` turns were taken. Each before that takes a turn, so `most` passes are enough.
unfoldable pub rounds : KernelState → ℕ → List CpuId
rounds k most = passes most k most
