use Rattle.std.proofs.Common.{◌≡◌, ◌++◌, string_bytes, flat_map, drop}
use Rattle.std.specs.List.{enumerate_from}
use Rattle.nova_report.specs.Report.{semaphore_of, semaphore_lines}
use Rattle.nova_report.proofs.objects.write_semaphores.Given as goal

abbrev pub invariant-loop-i : goal.invariant-loop-i
invariant-loop-i l =
    string_bytes l.out ++ flat_map (semaphore_of l.kernel.state) (enumerate_from l.i (drop l.i l.object-items))
    ≡ string_bytes l.initial.out ++ semaphore_lines l.kernel.state
