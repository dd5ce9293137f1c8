use Rattle.std.proofs.Common.{ap, sym, ◌∙◌}
use Rattle.nova_model.specs.Deeds.{done}
use Rattle.nova_model.specs.State.{KernelState}
use Rattle.nova_turn.specs.Parts.{state_of}
use Rattle.nova_turn.proofs.parts.Parts.perform.Goals as goal

pub returns-in-Finishes-clause-done : goal.returns-in-Finishes-clause-done
returns-in-Finishes-clause-done c =
    let k : KernelState = state_of c.args.self.now in c.finish.ensures.finished c.in-Finishes.end ∙ sym (ap (done k c.args.ec) c.in-Finishes.is)
