use Rattle.std.proofs.Common.{rules, ◌≡◌, ◌+◌, ◌≤◌, ◌∙◌, List, refl, sym, subst, arith}
use Rattle.std.specs.Prelude.{IsTrue}
use Rattle.nova_order.specs.Blocks.{is_within, total}
use Rattle.nova_order.specs.declared.block.Block.{Block}
use Rattle.nova_finished.specs.Finished.{IsIdleLine}
use Rattle.nova_rounds.proofs.Blocks.{along_first, next_fits, next_idle, next_on, next_there, next_within}
use Rattle.nova_rounds.proofs.orders.take_all.Goals as goal

pub loop-index-init : goal.loop-index-init
loop-index-init c = (along_first c.args.run.now.kernel.state c.args.run.now.limit c.args.run.now c.requires.begun.finished c.requires.begun.ready, refl)

pub take-requires-clause-more : goal.take-requires-clause-more
take-requires-clause-more c =
    let same = sym c.blocks-block-items.ensures.blocks in
    next_within c.blocks-block-items.result.now c.loop-index.index _ (omega arith) c.args.run.now.kernel.state c.args.run.now.limit c.loop-index.run c.loop-index.run c.loop-index.invariant.0
    (subst (λ (l : List Block). IsTrue (is_within c.args.run.now.kernel.state.cpus c.args.run.now.limit l)) same c.requires.within)

pub take-requires-clause-places : goal.take-requires-clause-places
take-requires-clause-places c =
    let same = sym c.blocks-block-items.ensures.blocks in
    let fits : total c.blocks-block-items.result.now ≤ c.loop-index.run.trace.capacity =
    (let few = subst (λ (l : List Block). total l ≤ c.args.run.now.trace.capacity) same c.requires.places in let kept = c.loop-index.invariant.1 in omega (arith, few, kept)) in
    next_fits c.blocks-block-items.result.now c.loop-index.index _ (omega arith) c.args.run.now.kernel.state c.args.run.now.limit c.loop-index.run c.loop-index.run c.loop-index.invariant.0
    c.loop-index.run.trace.capacity fits

pub take-requires-clause-cpu : goal.take-requires-clause-cpu
take-requires-clause-cpu c =
    let same = sym c.blocks-block-items.ensures.blocks in
    next_there c.blocks-block-items.result.now c.loop-index.index _ (omega arith) c.args.run.now.kernel.state c.args.run.now.limit c.loop-index.run c.loop-index.run c.loop-index.invariant.0
    (subst (λ (l : List Block). IsTrue (is_within c.args.run.now.kernel.state.cpus c.args.run.now.limit l)) same c.requires.within)

pub returns-then-branch-block-clause-idle : goal.returns-then-branch-block-clause-idle
returns-then-branch-block-clause-idle c line is =
    let number : line ≡ c.loop-index.index + 1 = cc in
    subst (λ (l : List Block). IsIdleLine c.args.run.now.kernel.state l line) c.blocks-block-items.ensures.blocks
    (next_idle c.blocks-block-items.result.now c.loop-index.index _ (omega arith) c.args.run.now.kernel.state c.args.run.now.limit c.loop-index.run c.take.new.run c.loop-index.invariant.0
    c.in_ok-take.field-0 c.in_ok-take.ensures.gone line (search rules) (c.in_ok-take.ensures.idle (search rules)) number)

pub loop-index-preserved : goal.loop-index-preserved
loop-index-preserved c = (
  next_on c.blocks-block-items.result.now c.loop-index.index _ (omega arith) c.args.run.now.kernel.state c.args.run.now.limit c.loop-index.run c.take.new.run c.loop-index.invariant.0
      c.in_ok-take.field-0 c.in_ok-take.ensures.gone (search rules),
  c.take.ensures.places ∙ c.loop-index.invariant.1,
)
