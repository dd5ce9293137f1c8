use Rattle.std.proofs.Common.{rules, ◌≡◌, List, [], subst}
use Rattle.nova_flowing.specs.declared.lapse.Lapse.{Lapse}
use Rattle.nova_order.specs.Blocks.{turns}
use Rattle.nova_watching.specs.Worked.{Continues}
use Rattle.nova_watching.proofs.Lapsing.{all_told}
use Rattle.nova_watching.proofs.work.lapses_of.Goals as goal

pub returns : goal.returns
returns c =
    let none : c.new-lapses.result.items ≡ [] = search rules in
    all_told c.args.from c.args.kernel.now.state c.work_blocks.new.kernel.state (turns c.args.order.now.blocks) c.work_blocks.new.lapses.items
    (subst (λ (l : List Lapse). Continues c.args.from c.args.kernel.now.state 0 l (turns c.args.order.now.blocks) c.work_blocks.new.kernel.state c.work_blocks.new.lapses.items) none c.in_ok-work_blocks.ensures)
