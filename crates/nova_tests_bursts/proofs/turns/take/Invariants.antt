use Rattle.std.proofs.Common.{◌≡◌, ◌+◌, ◌≤◌}
use Rattle.nova_burst.specs.Lending.{ComesAfter, LeaseView}
use Rattle.nova_tests_bursts.proofs.turns.take.Given as goal

abbrev pub invariant-loop-turn : goal.invariant-loop-turn
invariant-loop-turn l =
    (l.kernel.state.cpus ≡ l.fn.kernel.state.cpus)
    × (l.fn.kernel.room ≤ l.kernel.room + l._turn)
    × (l.kernel.state.turns ≤ l.fn.kernel.state.turns + l._turn)
    × ((lent : LeaseView) → ComesAfter lent l.fn.kernel.state → ComesAfter lent l.kernel.state)
