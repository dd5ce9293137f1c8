use Rattle.std.proofs.Common.{◌≡◌, ◌++◌, string_bytes, flat_map, drop}
use Rattle.nova_judging.specs.Lines.{tie_line, tie_lines}
use Rattle.nova_judging.proofs.lines.write_ties.Given as goal

abbrev pub invariant-loop-tie : goal.invariant-loop-tie
invariant-loop-tie l =
    string_bytes l.out ++ flat_map (tie_line l.policy l.labels) (drop l.tie-index l.ties) ≡ string_bytes l.initial.out ++ tie_lines l.policy l.labels l.ties
