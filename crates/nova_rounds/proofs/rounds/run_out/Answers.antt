use Rattle.std.proofs.Common.{rules, ◌≡◌, ◌<◌}
use Rattle.nova_finished.specs.UnderWay.{left}
use Rattle.nova_rounds.proofs.Passes.{IsUnderWay-first, IsUnderWay-pass, Passed-ended, Passed-all}
use Rattle.nova_rounds.proofs.rounds.run_out.Goals as goal

pub loop-more-init : goal.loop-more-init
loop-more-init c = (IsUnderWay-first c.args.run.now c.requires.ready, search rules)

pub returns-then-more-before : goal.returns-then-more-before
returns-then-more-before c =
    let same : left c.pass.new.run ≡ left c.loop-more.run = search rules in
    Passed-ended c.args.run.now c.loop-more.run c.pass.new.run _ c.in_ok-more.ensures.passed c.loop-more.invariant.0 same

pub loop-more-preserved : goal.loop-more-preserved
loop-more-preserved c =
    let fewer : left c.pass.new.run < left c.loop-more.run = search rules in (
      IsUnderWay-pass c.args.run.now c.loop-more.run c.pass.new.run _ c.in_ok-more.ensures.passed c.loop-more.invariant.0 fewer c.in_ok-more.ensures.places,
      search rules,
    )

pub returns : goal.returns
returns c =
    let none : left c.loop-more.run ≡ 0 = search rules in
    Passed-all c.args.run.now c.loop-more.run _ c.loop-more.invariant.0 none
