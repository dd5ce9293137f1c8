use Rattle.std.proofs.Common.{arith}
use Rattle.nova_rounds.proofs.Passes.{IsUnderWay-turn}
use Rattle.nova_rounds.proofs.rounds.pass.Goals as goal

pub loop-cpu-preserved : goal.loop-cpu-preserved
loop-cpu-preserved c = (
  IsUnderWay-turn c.args.run.now c.loop-cpu.run c.turn_within.new.run c.loop-cpu.cpu c.args.run.now.kernel.state.cpus _ (omega arith)
      c.loop-cpu.invariant.0 c.in_ok-more.ensures.passed c.turn_within.ensures.places,
  c.in_ok-more.ensures.more,
)
