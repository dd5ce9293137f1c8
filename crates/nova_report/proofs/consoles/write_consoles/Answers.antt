use Rattle.std.proofs.Common.{rules, arith, ◌≡◌, ◌++◌, string_bytes}
use Rattle.nova_report.specs.Report.{console_line}
use Rattle.nova_report.proofs.Ranges.{range_more}
use Rattle.nova_report.proofs.consoles.write_consoles.Goals as goal

pub loop-console-preserved : goal.loop-console-preserved
loop-console-preserved c =
    let log = c.args.kernel.now.state.memory.log in
    let wrote : string_bytes c.write_console.new.out ≡ string_bytes c.loop-console.out ++ console_line log c.loop-console.console = search rules in
    range_more (console_line log) c.loop-console.console c.consoles-console-end.result (string_bytes c.loop-console.out) _ c.loop-console.invariant
    (string_bytes c.write_console.new.out) (omega arith) wrote
