use Rattle.std.proofs.Common.{◌≡◌, ◌+◌, find, drop}
use Rattle.std.specs.List.{enumerate_from}
use Rattle.nova_naming.specs.Labels.{is_line_called}
use Rattle.nova_naming.proofs.policy.Policy.label_called.Given as goal

abbrev pub invariant-loop-i : goal.invariant-loop-i
invariant-loop-i l = find (is_line_called l.name) (enumerate_from (l.i + 1) (drop l.i l.self)) ≡ find (is_line_called l.name) (enumerate_from 1 l.self)
