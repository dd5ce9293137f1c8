use Rattle.std.proofs.Common.{◌≡◌, length}
use Rattle.nova_tests_kernel.proofs.machines.lay.Given as goal

abbrev pub invariant-loop-i : goal.invariant-loop-i
invariant-loop-i l =
    (length l.kernel.state.memory.ram ≡ length l.fn.kernel.state.memory.ram) × (l.kernel.state.cpus ≡ l.fn.kernel.state.cpus)
    × (l.kernel.room ≡ l.fn.kernel.room) × (l.kernel.state.turns ≡ l.fn.kernel.state.turns)
