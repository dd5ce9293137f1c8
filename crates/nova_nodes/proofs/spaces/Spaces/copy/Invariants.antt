use Rattle.std.proofs.Common.{◌≡◌, ◌++◌}
use Rattle.std.specs.Prelude.{map, drop}
use Rattle.nova_nodes.specs.Spaces.{roomless}
use Rattle.nova_nodes.proofs.spaces.Spaces.copy.Given as goal

-- what is copied, and what is left to be
abbrev pub invariant-loop-space : goal.invariant-loop-space
invariant-loop-space g l = l.items.items ++ map roomless (drop l.space-index l.space-items) ≡ map roomless l.fn.self
