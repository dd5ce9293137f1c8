use Rattle.std.proofs.Common.{rules, ◌≡◌, ◌<◌, ◌+◌, List, length, sym, subst}
use Rattle.nova_order.specs.Blocks.{BlockList}
use Rattle.nova_order.specs.declared.block.Block.{Block}
use Rattle.nova_policy.proofs.FirstTurns.{AreFirst, begun, next_block}
use Rattle.nova_policy.proofs.running.first_turns.Goals as goal

pub loop-block-init : goal.loop-block-init
loop-block-init c = subst (λ (list : BlockList). AreFirst c.args.most c.args.order.now.blocks 0 list.blocks) (sym c.new-first.ensures) (begun c.args.most c.args.order.now.blocks)

pub loop-block-preserved : goal.loop-block-preserved
loop-block-preserved c =
    let same : c.blocks-block-items.result.now ≡ c.args.order.now.blocks = c.blocks-block-items.ensures.blocks in
    let more : c.loop-block.block-index < length c.blocks-block-items.result.now = search rules in
    subst (λ (bs : List Block). AreFirst c.args.most bs (c.loop-block.block-index + 1) c.add_within.new.first.blocks) same
    (next_block c.args.most c.loop-block.block-index c.blocks-block-items.result.now c.loop-block.first.blocks c.add_within.new.first.blocks _ more
    (subst (λ (bs : List Block). AreFirst c.args.most bs c.loop-block.block-index c.loop-block.first.blocks) (sym same) c.loop-block.invariant)
    c.in_ok-add_within.ensures.turns c.in_ok-add_within.ensures.few)
