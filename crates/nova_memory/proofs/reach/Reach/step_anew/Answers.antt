use Rattle.std.proofs.Common.{subst}
use Rattle.rv_model.specs.Step.{one}
use Rattle.rv_core.specs.Steps.{Follows, space_of}
use Rattle.nova_memory.specs.Reach.{ReachState, fetched, loaded, stored, takes}
use Rattle.nova_memory.proofs.reach.Reach.step_anew.Goals as goal

pub returns-in-Some : goal.returns-in-Some
returns-in-Some c =
    subst (λ (s : ReachState). Follows stored (one c.args.regs.now (space_of fetched loaded takes s)) c.args.regs.now s c.step_known.result c.step_known.new.regs c.step_known.new.bus)
    c.read_anew.ensures.same c.step_known.ensures

pub returns-in-None : goal.returns-in-None
returns-in-None c =
    subst (λ (s : ReachState). Follows stored (one c.args.regs.now (space_of fetched loaded takes s)) c.args.regs.now s c.step.result c.step.new.regs c.step.new.bus)
    c.read_anew.ensures.same c.step.ensures
