use Rattle.std.proofs.Common.{◌≡◌, ◌+◌, ◌≤◌, replicate}
use Rattle.nova_watching.specs.Worked.{Continues}
use Rattle.nova_watching.proofs.work.work_block.Given as goal

abbrev pub invariant-loop-turn : goal.invariant-loop-turn
invariant-loop-turn l = record {
  continues : Continues l.from l.initial.kernel.state l.done l.initial.lapses.items (replicate l.turn l.block.cpu) l.kernel.state l.lapses.items;
  room : l.initial.kernel.room ≤ l.kernel.room + l.turn;
  turns : l.kernel.state.turns ≤ l.initial.kernel.state.turns + l.turn;
  cpus : l.kernel.state.cpus ≡ l.initial.kernel.state.cpus;
}
