use Rattle.std.proofs.Common.{◌≡◌, ◌++◌, flat_map, drop}
use Rattle.nova_naming.specs.Labels.{flow_in, flows_of}
use Rattle.nova_naming.proofs.policy.Policy.flows.Given as goal

abbrev pub invariant-loop-statement : goal.invariant-loop-statement
invariant-loop-statement l = l.flows.items ++ flat_map (flow_in l.self) (drop l.statement-index l.self) ≡ flows_of l.self
