use Rattle.std.proofs.Common.{◌≤◌, drop, length}
use Rattle.nova_search.proofs.Retaken.{IsRetaken}
use Rattle.nova_search.proofs.again.take_turns.Given as goal

-- the turns so far
abbrev pub invariant-loop-cpu : goal.invariant-loop-cpu
invariant-loop-cpu l = record {
  taken : IsRetaken l.fn.kernel.state l.kernel.state l.order l.cpu-index;
  room : length (drop l.cpu-index l.order) ≤ l.kernel.room;
}
