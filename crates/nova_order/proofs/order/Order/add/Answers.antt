use Rattle.std.proofs.Common.{rules, sym, subst, ap, arith}
use Rattle.nova_order.specs.Blocks.{IsOrder, total}
use Rattle.nova_order.specs.declared.block.Block.{Block}
use Rattle.nova_order.proofs.BlockLemmas.{order_push, total_push}
use Rattle.nova_order.proofs.order.Order.add.Goals as goal

pub invariant_of-self : goal.invariant_of-self
invariant_of-self c =
    let block : Block = record { cpu = c.args.cpu; count = c.args.count } in
    let was = c.self.inside.blocks.items in
    let is = order_push was block c.self.invariant.0 c.requires.counted (search rules) (search rules) in
    let sum = total_push was block in
    let items = sym c.push_reserved.ensures.items in
    (subst IsOrder items is, omega (arith, sum, ap total items, c.self.invariant.1), search rules)

pub returns-clause-order : goal.returns-clause-order
returns-clause-order c = (invariant_of-self c).0
