use Rattle.std.proofs.Common.{rules, ◌≡◌, ◌∙◌, ap}
use Rattle.nova_order.specs.Blocks.{turns, total, pushed}
use Rattle.nova_order.proofs.BlockLemmas.{turns_pushed, total_pushed}
use Rattle.nova_order.proofs.order.Order.extend.Goals as goal

pub returns-then-ends_with-clause-turns : goal.returns-then-ends_with-clause-turns
returns-then-ends_with-clause-turns c =
    let is : c.grow.new.self ≡ pushed c.args.cpu c.args.count c.args.self.now = search rules in
    ap (λ list. turns list.blocks) is ∙ turns_pushed c.args.self.now c.args.cpu c.args.count

pub returns-then-ends_with-clause-sum : goal.returns-then-ends_with-clause-sum
returns-then-ends_with-clause-sum c =
    let is : c.grow.new.self ≡ pushed c.args.cpu c.args.count c.args.self.now = search rules in
    ap (λ list. total list.blocks) is ∙ total_pushed c.args.self.now c.args.cpu c.args.count
