use Rattle.std.proofs.Common.{rules, ◌≡◌, ◌+◌, ◌<◌, List, length, take, replicate, Option, Some, None, ap, sym, ◌∙◌, subst, arith, refl, slice_index_or}
use Rattle.nova_judging.specs.declared.answer.Told.{Told}
use Rattle.nova_order.specs.Blocks.{total, turns}
use Rattle.nova_order.specs.declared.block.Block.{Block}
use Rattle.nova_watching.specs.Watched.{IsBrokenOn, IsWatched}
use Rattle.nova_watching.proofs.Watching.{found_in_blocks, next_block, next_total, no_blocks}
use Rattle.nova_watching.proofs.states.watch.Goals as goal

pub loop-block-init : goal.loop-block-init
loop-block-init c = record {
  watched = no_blocks c.args.policy.now c.args.from c.args.kernel.now.state;
  known = tt;
  done = refl;
  room = omega arith;
  turns = omega arith;
  cpus = refl;
}

pub returns-in-Some : goal.returns-in-Some
returns-in-Some c =
    let items : List Block = c.blocks-block-items.result.now in
    let i = c.loop-block.block-index in
    let d : Block = record { cpu = 0; count = 0 } in
    let block : Block = slice_index_or items i d in
    let same : items ≡ c.args.order.now.blocks = c.blocks-block-items.ensures.blocks in
    let less : i < length items = search rules in
    let done : c.loop-block.done ≡ total (take i items) = c.loop-block.invariant.done ∙ sym (ap (λ (bs : List Block). total (take i bs)) same) in
    let first : IsWatched c.args.policy.now c.args.from c.args.kernel.now.state 0 (turns (take i items)) c.loop-block.kernel.state None =
    subst (λ (bs : List Block). IsWatched c.args.policy.now c.args.from c.args.kernel.now.state 0 (turns (take i bs)) c.loop-block.kernel.state None) (sym same) c.loop-block.invariant.watched in
    let found : IsWatched c.args.policy.now c.args.from c.loop-block.kernel.state c.loop-block.done (replicate block.count block.cpu) c.watch_block.new.kernel.state (Some c.in-Some.told) =
    subst (λ (r : Option Told). IsWatched c.args.policy.now c.args.from c.loop-block.kernel.state c.loop-block.done (replicate block.count block.cpu) c.watch_block.new.kernel.state r) c.in-Some.is c.in_ok-told.ensures.watched in
    subst (λ (bs : List Block). IsBrokenOn c.args.policy.now c.args.from c.args.kernel.now.state 0 (turns bs) c.in-Some.told) same
    (found_in_blocks c.args.policy.now c.args.from items i d less c.args.kernel.now.state c.loop-block.kernel.state c.watch_block.new.kernel.state c.loop-block.done done c.in-Some.told first found)

pub loop-block-preserved : goal.loop-block-preserved
loop-block-preserved c =
    let items : List Block = c.blocks-block-items.result.now in
    let i = c.loop-block.block-index in
    let d : Block = record { cpu = 0; count = 0 } in
    let block : Block = slice_index_or items i d in
    let same : items ≡ c.args.order.now.blocks = c.blocks-block-items.ensures.blocks in
    let less : i < length items = search rules in
    let done : c.loop-block.done ≡ total (take i items) = c.loop-block.invariant.done ∙ sym (ap (λ (bs : List Block). total (take i bs)) same) in
    let first : IsWatched c.args.policy.now c.args.from c.args.kernel.now.state 0 (turns (take i items)) c.loop-block.kernel.state None =
    subst (λ (bs : List Block). IsWatched c.args.policy.now c.args.from c.args.kernel.now.state 0 (turns (take i bs)) c.loop-block.kernel.state None) (sym same) c.loop-block.invariant.watched in
    let none : c.in_ok-told.field-0 ≡ None = search rules in
    let next : IsWatched c.args.policy.now c.args.from c.loop-block.kernel.state c.loop-block.done (replicate block.count block.cpu) c.watch_block.new.kernel.state None =
    subst (λ (r : Option Told). IsWatched c.args.policy.now c.args.from c.loop-block.kernel.state c.loop-block.done (replicate block.count block.cpu) c.watch_block.new.kernel.state r) none c.in_ok-told.ensures.watched in
    let room = c.loop-block.invariant.room in
    let spent = c.in_ok-told.ensures.room in
    let turned = c.loop-block.invariant.turns in
    let taken = c.in_ok-told.ensures.turns in
    record {
      watched = subst (λ (bs : List Block). IsWatched c.args.policy.now c.args.from c.args.kernel.now.state 0 (turns (take (i + 1) bs)) c.watch_block.new.kernel.state None) same
          (next_block c.args.policy.now c.args.from items i d less c.args.kernel.now.state c.loop-block.kernel.state c.watch_block.new.kernel.state c.loop-block.done done None first next);
      known = c.in_ok-told.ensures.known;
      done = next_total c.args.policy.now c.args.from items i d less c.args.kernel.now.state c.loop-block.kernel.state c.watch_block.new.kernel.state c.loop-block.done done
          ∙ ap (λ (bs : List Block). total (take (i + 1) bs)) same;
      room = omega (arith, room, spent);
      turns = omega (arith, turned, taken);
      cpus = c.in_ok-told.ensures.cpus ∙ c.loop-block.invariant.cpus;
    }
