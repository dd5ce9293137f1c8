use Rattle.std.proofs.Common.{◌≡◌, find, drop}
use Rattle.std.specs.List.{enumerate_from}
use Rattle.law_sides.specs.Resting.{is_astray}
use Rattle.nova_sides.proofs.resting.first_astray.Given as goal

abbrev pub invariant-loop-i : goal.invariant-loop-i
invariant-loop-i l = find (is_astray l.kernel.state) (enumerate_from l.i (drop l.i l.labels)) ≡ find (is_astray l.kernel.state) (enumerate_from 0 l.labels)
