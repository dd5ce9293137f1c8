use Rattle.std.proofs.Common.{◌≡◌, ◌++◌, string_bytes, flat_map, drop, length}
use Rattle.std.specs.List.{enumerate_from, zip}
use Rattle.nova_report.specs.Report.{source_line, source_lines}
use Rattle.nova_report.proofs.sources.write_sources.Given as goal

-- what is written, before the lines of the sources that are left
abbrev pub invariant-loop-i : goal.invariant-loop-i
invariant-loop-i l = record {
  written : string_bytes l.out ++ flat_map source_line (enumerate_from l.i (zip (drop l.i l.sources) (drop l.i l.lines.items))) ≡ string_bytes l.initial.out ++ source_lines l.sources l.trace.items;
  length : length l.lines.items ≡ length l.sources;
}
