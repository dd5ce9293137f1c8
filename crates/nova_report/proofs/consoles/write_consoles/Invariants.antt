use Rattle.std.proofs.Common.{◌≡◌, ◌++◌, ◌-◌, string_bytes, flat_map}
use Rattle.std.specs.List.{range_with_len}
use Rattle.nova_report.specs.Report.{console_line, console_lines}
use Rattle.nova_report.proofs.consoles.write_consoles.Given as goal

abbrev pub invariant-loop-console : goal.invariant-loop-console
invariant-loop-console l =
    string_bytes l.out ++ flat_map (console_line l.kernel.state.memory.log) (range_with_len l.console (l.console-end - l.console))
    ≡ string_bytes l.initial.out ++ console_lines l.kernel.state
