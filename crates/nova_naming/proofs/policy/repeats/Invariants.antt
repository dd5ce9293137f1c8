use Rattle.std.proofs.Common.{◌≡◌, length}
use Rattle.nova_naming.specs.Policy.{repeats}
use Rattle.nova_naming.proofs.policy.repeats.Given as goal

abbrev pub invariant-loop-rest : goal.invariant-loop-rest
invariant-loop-rest l = repeats l.rest ≡ repeats l.domains

abbrev pub decreases-loop-rest : goal.decreases-loop-rest
decreases-loop-rest l = length l.rest
