use Rattle.std.proofs.Common.{rules}
use Rattle.nova_order.proofs.BlockLemmas.{last_at}
use Rattle.nova_order.proofs.order.Order.last.Goals as goal

pub returns : goal.returns
returns c = search (rules, last_at c.args.self.now.blocks)
