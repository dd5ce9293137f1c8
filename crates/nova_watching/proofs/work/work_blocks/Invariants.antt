use Rattle.std.proofs.Common.{◌≡◌, ◌+◌, ◌≤◌, take}
use Rattle.nova_order.specs.Blocks.{total, turns}
use Rattle.nova_watching.specs.Worked.{Continues}
use Rattle.nova_watching.proofs.work.work_blocks.Given as goal

abbrev pub invariant-loop-block : goal.invariant-loop-block
invariant-loop-block l = record {
  continues : Continues l.from l.initial.kernel.state 0 l.initial.lapses.items (turns (take l.block-index l.order.blocks)) l.kernel.state l.lapses.items;
  done : l.done ≡ total (take l.block-index l.order.blocks);
  room : l.initial.kernel.room ≤ l.kernel.room + l.done;
  turns : l.kernel.state.turns ≤ l.initial.kernel.state.turns + l.done;
  cpus : l.kernel.state.cpus ≡ l.initial.kernel.state.cpus;
}
