use Rattle.std.proofs.Common.{◌≡◌, ◌+◌, ◌≤◌, None, replicate}
use Rattle.nova_watching.specs.Watched.{IsKnown, IsWatched}
use Rattle.nova_watching.proofs.states.watch_block.Given as goal

abbrev pub invariant-loop-turn : goal.invariant-loop-turn
invariant-loop-turn l = record {
  watched : IsWatched l.policy l.from l.initial.kernel.state l.done (replicate l.turn l.block.cpu) l.kernel.state None;
  known : IsKnown l.known l.policy l.kernel.state;
  room : l.initial.kernel.room ≤ l.kernel.room + l.turn;
  turns : l.kernel.state.turns ≤ l.initial.kernel.state.turns + l.turn;
  cpus : l.kernel.state.cpus ≡ l.initial.kernel.state.cpus;
}
