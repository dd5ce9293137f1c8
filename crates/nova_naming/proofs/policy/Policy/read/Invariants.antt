use Rattle.std.proofs.Common.{◌≡◌, length}
use Rattle.nova_naming.specs.Policy.{policy_of, with_lines}
use Rattle.nova_naming.proofs.policy.Policy.read.Given as goal

abbrev pub invariant-loop-line : goal.invariant-loop-line
invariant-loop-line l = with_lines l.policy l.lines ≡ policy_of l.text

abbrev pub decreases-loop-line : goal.decreases-loop-line
decreases-loop-line l = length l.lines
