use Rattle.std.proofs.Common.{rules}
use Rattle.nova_order.proofs.BlockLemmas.{length_turns}
use Rattle.nova_order.proofs.order.Order.sum.Goals as goal

pub returns-clause-turns : goal.returns-clause-turns
returns-clause-turns c = grind (rules, length_turns c.args.self.now.blocks)
