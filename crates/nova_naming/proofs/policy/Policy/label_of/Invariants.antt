use Rattle.std.proofs.Common.{◌≡◌, ◌+◌, find, drop}
use Rattle.std.specs.List.{enumerate_from}
use Rattle.nova_naming.specs.Labels.{is_line_of}
use Rattle.nova_naming.proofs.policy.Policy.label_of.Given as goal

abbrev pub invariant-loop-i : goal.invariant-loop-i
invariant-loop-i l = find (is_line_of l.domain) (enumerate_from (l.i + 1) (drop l.i l.self)) ≡ find (is_line_of l.domain) (enumerate_from 1 l.self)
