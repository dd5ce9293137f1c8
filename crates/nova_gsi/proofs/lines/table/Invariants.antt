use Rattle.std.proofs.Common.{◌≡◌, ◌++◌, drop, length}
use Rattle.nova_gsi.specs.Firings.{lines_from}
use Rattle.nova_gsi.proofs.lines.table.Given as goal

-- the lines that are made, before those of the sources that are left
abbrev pub invariant-loop-i : goal.invariant-loop-i
invariant-loop-i l = record {
  lines : l.lines.items ++ lines_from l.trace.items l.i (drop l.i l.sources) ≡ lines_from l.trace.items 0 l.sources;
  length : length l.lines.items ≡ l.i;
}
