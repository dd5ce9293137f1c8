use Rattle.std.proofs.Common.{◌≡◌, ◌++◌, flat_map, drop}
use Rattle.nova_naming.specs.Labels.{semaphores_in, semaphores_of}
use Rattle.nova_naming.proofs.policy.Policy.semaphores.Given as goal

abbrev pub invariant-loop-statement : goal.invariant-loop-statement
invariant-loop-statement l = l.semaphores.items ++ flat_map semaphores_in (drop l.statement-index l.self) ≡ semaphores_of l.self
