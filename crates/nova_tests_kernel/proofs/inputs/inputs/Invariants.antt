use Rattle.std.proofs.Common.{◌+◌, ◌≤◌}
use Rattle.nova_tests_kernel.proofs.inputs.inputs.Given as goal

abbrev pub invariant-loop-turn : goal.invariant-loop-turn
invariant-loop-turn g l =
    (l.fn.kernel.room ≤ l.kernel.room + l.turn) × (l.kernel.state.turns ≤ l.fn.kernel.state.turns + l.turn)
