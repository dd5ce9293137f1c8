use Rattle.std.proofs.Common.{rules, ◌≡◌, [], ◌∷◌, ◌++◌, ◌∙◌, ap}
use Rattle.nova_order.specs.Blocks.{turns, total}
use Rattle.nova_order.proofs.BlockLemmas.{turns_push, total_push}
use Rattle.nova_order.proofs.order.Order.start.Goals as goal

pub returns-clause-turns : goal.returns-clause-turns
returns-clause-turns c =
    let is : c.add.new.self.blocks ≡ c.args.self.now.blocks ++ record { cpu = c.args.cpu; count = c.args.count } ∷ [] = search rules in
    ap turns is ∙ turns_push c.args.self.now.blocks (record { cpu = c.args.cpu; count = c.args.count })

pub returns-clause-sum : goal.returns-clause-sum
returns-clause-sum c =
    let is : c.add.new.self.blocks ≡ c.args.self.now.blocks ++ record { cpu = c.args.cpu; count = c.args.count } ∷ [] = search rules in
    ap total is ∙ total_push c.args.self.now.blocks (record { cpu = c.args.cpu; count = c.args.count })
