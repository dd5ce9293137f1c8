use Rattle.std.proofs.Common.{◌≡◌, take}
use Rattle.nova_order.specs.Blocks.{IsOrder, total, turns}
use Rattle.nova_asking.proofs.path.order_of.Given as goal

-- the turns so far
abbrev pub invariant-loop-cpu : goal.invariant-loop-cpu
invariant-loop-cpu l = (turns l.order.blocks ≡ take l.cpu-index l.path) × (total l.order.blocks ≡ l.cpu-index) × IsOrder l.order.blocks
