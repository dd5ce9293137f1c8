use Rattle.std.proofs.Common.{rules, ◌≡◌, ◌+◌, ◌<◌, List, length, take, replicate, ap, sym, ◌∙◌, subst, arith, refl, slice_index_or}
use Rattle.nova_order.specs.Blocks.{total, turns}
use Rattle.nova_order.specs.declared.block.Block.{Block}
use Rattle.nova_watching.specs.Worked.{Continues}
use Rattle.nova_watching.proofs.Lapsing.{next_block, next_total, no_blocks}
use Rattle.nova_watching.proofs.work.work_blocks.Goals as goal

pub loop-block-init : goal.loop-block-init
loop-block-init c = record {
  continues = no_blocks c.args.from c.args.kernel.now.state c.args.lapses.now.items;
  done = refl;
  room = omega arith;
  turns = omega arith;
  cpus = refl;
}

pub loop-block-preserved : goal.loop-block-preserved
loop-block-preserved c =
    let items : List Block = c.blocks-block-items.result.now in
    let i = c.loop-block.block-index in
    let d : Block = record { cpu = 0; count = 0 } in
    let block : Block = slice_index_or items i d in
    let same : items ≡ c.args.order.now.blocks = c.blocks-block-items.ensures.blocks in
    let less : i < length items = search rules in
    let done : c.loop-block.done ≡ total (take i items) = c.loop-block.invariant.done ∙ sym (ap (λ (bs : List Block). total (take i bs)) same) in
    let first : Continues c.args.from c.args.kernel.now.state 0 c.args.lapses.now.items (turns (take i items)) c.loop-block.kernel.state c.loop-block.lapses.items =
    subst (λ (bs : List Block). Continues c.args.from c.args.kernel.now.state 0 c.args.lapses.now.items (turns (take i bs)) c.loop-block.kernel.state c.loop-block.lapses.items) (sym same) c.loop-block.invariant.continues in
    let next : Continues c.args.from c.loop-block.kernel.state c.loop-block.done c.loop-block.lapses.items (replicate block.count block.cpu) c.work_block.new.kernel.state c.work_block.new.lapses.items =
    c.in_ok-work_block.ensures.continues in
    let room = c.loop-block.invariant.room in
    let spent = c.in_ok-work_block.ensures.room in
    let turned = c.loop-block.invariant.turns in
    let taken = c.in_ok-work_block.ensures.turns in
    record {
      continues = subst (λ (bs : List Block). Continues c.args.from c.args.kernel.now.state 0 c.args.lapses.now.items (turns (take (i + 1) bs)) c.work_block.new.kernel.state c.work_block.new.lapses.items) same
          (next_block c.args.from items i d less c.args.kernel.now.state c.loop-block.kernel.state c.work_block.new.kernel.state c.loop-block.done done c.args.lapses.now.items c.loop-block.lapses.items c.work_block.new.lapses.items
          first next);
      done = next_total c.args.from items i d less c.args.kernel.now.state c.loop-block.kernel.state c.work_block.new.kernel.state c.loop-block.done done
          ∙ ap (λ (bs : List Block). total (take (i + 1) bs)) same;
      room = omega (arith, room, spent);
      turns = omega (arith, turned, taken);
      cpus = c.in_ok-work_block.ensures.cpus ∙ c.loop-block.invariant.cpus;
    }
