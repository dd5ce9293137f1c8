use Rattle.std.proofs.Common.{◌≡◌, [], refl, ap, ◌∙◌}
use Rattle.nova_order.specs.Blocks.{BlockList}
use Rattle.nova_finished.proofs.Passing.{Finished-none}
use Rattle.nova_finished.proofs.finished.Finished.begin.Goals as goal

pub returns-clause-finished : goal.returns-clause-finished
returns-clause-finished c =
    let empty : c.reserve.new.self.blocks ≡ [] = ap (λ (l : BlockList). l.blocks) c.in-Ok.ensures.ok ∙ ap (λ (l : BlockList). l.blocks) c.new-order.ensures in
    Finished-none c.args.kernel.state _ c.in-Ok-copy.ensures.state refl empty c.in-Ok-with_capacity.ensures.items
