use Rattle.std.proofs.Common.{refl, subst, sym}
use Rattle.nova_order.specs.Blocks.{BlockList, IsOrder}
use Rattle.nova_asking.proofs.Orders.{no_blocks, no_turns}
use Rattle.nova_asking.proofs.path.order_of.Goals as goal

pub loop-cpu-init : goal.loop-cpu-init
loop-cpu-init c = (rw c.new-order.ensures no_turns, rw c.new-order.ensures refl, subst (λ (o : BlockList). IsOrder o.blocks) (sym c.new-order.ensures) no_blocks)
