use Rattle.std.proofs.Common.{◌≡◌, ◌+◌, ◌≤◌, None, take}
use Rattle.nova_order.specs.Blocks.{total, turns}
use Rattle.nova_watching.specs.Watched.{IsKnown, IsWatched}
use Rattle.nova_watching.proofs.states.watch.Given as goal

abbrev pub invariant-loop-block : goal.invariant-loop-block
invariant-loop-block l = record {
  watched : IsWatched l.policy l.from l.initial.kernel.state 0 (turns (take l.block-index l.order.blocks)) l.kernel.state None;
  known : IsKnown l.known l.policy l.kernel.state;
  done : l.done ≡ total (take l.block-index l.order.blocks);
  room : l.initial.kernel.room ≤ l.kernel.room + l.done;
  turns : l.kernel.state.turns ≤ l.initial.kernel.state.turns + l.done;
  cpus : l.kernel.state.cpus ≡ l.initial.kernel.state.cpus;
}
