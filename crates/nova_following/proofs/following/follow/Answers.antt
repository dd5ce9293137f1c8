use Rattle.std.proofs.Common.{rules, ◌≡◌, ◌+◌, ◌≤◌, List, true, false, sym, subst, arith}
use Rattle.std.specs.Prelude.{IsTrue, nat_lt}
use Rattle.std.specs.List.{list_all}
use Rattle.nova_order.specs.Blocks.{total}
use Rattle.nova_order.specs.declared.block.Block.{Block}
use Rattle.nova_finished.specs.Finished.{IsIdleLine}
use Rattle.nova_following.proofs.Blocks.{along_first, count_at, cpu_at, idle_at, on_at, room_at}
use Rattle.nova_following.proofs.following.follow.Goals as goal

pub loop-index-init : goal.loop-index-init
loop-index-init c = along_first c.args.guest c.args.kernel.now c.args.trail.now

pub take-requires-clause-cpu : goal.take-requires-clause-cpu
take-requires-clause-cpu c =
    let same = sym c.blocks-block-items.ensures.blocks in
    cpu_at c.blocks-block-items.result.now c.loop-index.index _ (omega arith) c.args.guest c.args.kernel.now c.loop-index.kernel c.args.trail.now c.loop-index.trail c.loop-index.invariant
    (subst (λ (l : List Block). IsTrue (list_all (λ block. nat_lt block.cpu c.args.kernel.now.state.cpus) l)) same c.requires.cpus)

pub take-requires-clause-room : goal.take-requires-clause-room
take-requires-clause-room c =
    let same = sym c.blocks-block-items.ensures.blocks in
    room_at c.blocks-block-items.result.now c.loop-index.index _ (omega arith) c.args.guest c.args.kernel.now c.loop-index.kernel c.args.trail.now c.loop-index.trail c.loop-index.invariant
    (subst (λ (l : List Block). total l ≤ c.args.kernel.now.room) same c.requires.room)

pub take-requires-clause-turns : goal.take-requires-clause-turns
take-requires-clause-turns c =
    let same = sym c.blocks-block-items.ensures.blocks in
    count_at c.blocks-block-items.result.now c.loop-index.index _ (omega arith) c.args.guest c.args.kernel.now c.loop-index.kernel c.args.trail.now c.loop-index.trail c.loop-index.invariant
    (subst (λ (l : List Block). c.args.kernel.now.state.turns + total l ≤ 2147483648) same c.requires.turns)

pub returns-then-not-branch-clause-idle : goal.returns-then-not-branch-clause-idle
returns-then-not-branch-clause-idle c line is =
    let idle : c.in_ok-take.field-0 ≡ false = search rules in
    let number : line ≡ c.loop-index.index + 1 = cc in
    subst (λ (l : List Block). IsIdleLine c.args.kernel.now.state l line) c.blocks-block-items.ensures.blocks
    (idle_at c.blocks-block-items.result.now c.loop-index.index _ (omega arith) c.args.guest c.args.kernel.now c.loop-index.kernel c.args.trail.now c.loop-index.trail c.loop-index.invariant
    c.take.new.kernel c.take.new.trail line c.in_ok-take.field-0 idle c.in_ok-take.ensures number)

pub loop-index-preserved : goal.loop-index-preserved
loop-index-preserved c =
    let all : c.in_ok-take.field-0 ≡ true = search rules in
    on_at c.blocks-block-items.result.now c.loop-index.index _ (omega arith) c.args.guest c.args.kernel.now c.loop-index.kernel c.args.trail.now c.loop-index.trail c.loop-index.invariant
    c.take.new.kernel c.take.new.trail c.in_ok-take.field-0 all c.in_ok-take.ensures
