use Rattle.std.proofs.Common.{◌∙◌, rules, arith}
use Rattle.nova_model.specs.Choice.{is_idle}
use Rattle.nova_turn.specs.Parts.{state_of}
use Rattle.nova_turn.proofs.Quiet.{quiet_more}
use Rattle.nova_turn.proofs.parts.Parts.is_quiet.Goals as goal

pub loop-cpu-preserved : goal.loop-cpu-preserved
loop-cpu-preserved c =
    quiet_more (is_idle (state_of c.args.self.now)) c.loop-cpu.cpu c.args.self.now.cpus (omega arith) (search rules)
    ∙ c.loop-cpu.invariant
