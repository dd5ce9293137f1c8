use Rattle.std.proofs.Common.{rules, ◌≡◌, true, false, arith}
use Rattle.std.specs.Prelude.{is_some}
use Rattle.nova_model.specs.Turn.{turn}
use Rattle.nova_finished.proofs.Idle.{turn_idle}
use Rattle.nova_following.proofs.Blocks.{turn_on}
use Rattle.nova_following.proofs.following.take.Goals as goal

pub returns-then-not-branch : goal.returns-then-not-branch
returns-then-not-branch c =
    let idle : is_some (turn c.loop-turn.kernel.state c.args.cpu) ≡ false = search rules in
    turn_idle c.args.kernel.now.state c.loop-turn.kernel.state c.args.cpu c.loop-turn._turn c.args.count (omega arith) c.loop-turn.invariant.0.state idle

pub loop-turn-preserved : goal.loop-turn-preserved
loop-turn-preserved c =
    let there : is_some (turn c.loop-turn.kernel.state c.args.cpu) ≡ true = search rules in
    turn_on c.args.guest c.args.kernel.now c.loop-turn.kernel c.turn.new.kernel c.args.trail.now c.loop-turn.trail c.turn.new.trail c.args.cpu c.loop-turn._turn c.loop-turn.invariant c.in_ok-turn.ensures.passed there
