use Rattle.std.proofs.Common.{subst}
use Rattle.std.specs.Prelude.{Some}
use Rattle.nova_model.specs.State.{KernelState}
use Rattle.nova_turn.specs.Going.{HasRaised}
use Rattle.nova_turn.specs.Parts.{state_of}
use Rattle.nova_turn.proofs.Going.{raised_deed}
use Rattle.nova_turn.proofs.parts.Parts.decide.Goals as goal

pub returns-in-Some-clause-deed : goal.returns-in-Some-clause-deed
returns-in-Some-clause-deed c =
    let k : KernelState = state_of c.args.self.now in
    let has : HasRaised k c.args.ec (Some c.in-Some.raised) = subst (HasRaised k c.args.ec) c.in-Some.is c.requires.raised in
    raised_deed k c.args.ec c.in-Some.raised c.signal.result has c.signal.ensures.deed
