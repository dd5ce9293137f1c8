use Rattle.std.proofs.Common.{◌≡◌, ◌+◌, ◌≤◌}
use Rattle.nova_nodes.specs.NodesStates.{room}
use Rattle.nova_model.specs.Boot.{ram_derivation, console_derivation}
use Rattle.std.specs.Prelude.{◌∷◌, map}
use Rattle.std.specs.List.{range_with_len}
use Rattle.nova_memory.proofs.boot.add_memory.Given as goal

-- RAM and the consoles up to now, and room for the others and the objects
abbrev pub invariant-loop-console : goal.invariant-loop-console
invariant-loop-console l = record {
  before : l.nodes.delegations ≡ record { list = ram_derivation l.order ∷ map (console_derivation l.order) (range_with_len 0 l.console); next = 1 + l.console };
  room : l.consoles + 3 ≤ room l.nodes 0 + l.console;
}
