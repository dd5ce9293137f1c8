use Rattle.std.proofs.Common.{◌≡◌}
use Rattle.std.specs.Prelude.{replicate}
use Rattle.nova_times.specs.Processors.{new_processor}
use Rattle.nova_times.proofs.processor.new.Given as goal

abbrev pub invariant-loop : goal.invariant-loop
invariant-loop l = l.processors.items ≡ replicate l.counter new_processor
