use Rattle.std.proofs.Common.{◌≡◌, ◌++◌, ◌+◌, ◌-◌, replicate}
use Rattle.nova_report.specs.Report.{lines_from}
use Rattle.nova_report.proofs.events.write_times.Given as goal

abbrev pub invariant-loop-i : goal.invariant-loop-i
invariant-loop-i l =
    l.out.items ++ lines_from (l.place + l.i + 1) (replicate (l.count - l.i) l.event)
    ≡ l.initial.out.items ++ lines_from (l.place + 1) (replicate l.count l.event)
