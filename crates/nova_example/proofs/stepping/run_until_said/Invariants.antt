use Rattle.std.proofs.Common.{◌≡◌, ◌+◌, ◌<◌, ◌≤◌, ℕ, false, replicate}
use Rattle.nova_model.specs.Runs.{run}
use Rattle.nova_example.specs.Said.{has_said}
use Rattle.nova_example.proofs.stepping.run_until_said.Given as goal

-- the turns so far, before each of which the word was not said; and what the turns that are left need
abbrev pub invariant-loop-turn : goal.invariant-loop-turn
invariant-loop-turn l =
    (l.kernel.state ≡ run l.fn.kernel.state (replicate l._turn l.cpu))
    × ((n : ℕ) → n < l._turn → has_said (run l.fn.kernel.state (replicate n l.cpu)) l.console l.word ≡ false)
    × (l.kernel.state.cpus ≡ l.fn.kernel.state.cpus)
    × (l.fn.kernel.room ≤ l.kernel.room + l._turn)
    × (l.kernel.state.turns ≤ l.fn.kernel.state.turns + l._turn)
