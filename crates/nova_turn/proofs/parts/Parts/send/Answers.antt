use Rattle.std.proofs.Common.{◌<◌, length, sym, subst}
use Rattle.nova_model.specs.State.{KernelState}
use Rattle.nova_memory.specs.Reach.{ReachState}
use Rattle.nova_turn.specs.Parts.{state_of}
use Rattle.nova_deeds.proofs.Served.{admitted_near, message_below, near_there}
use Rattle.nova_turn.proofs.parts.Parts.send.Goals as goal

pub pass_message-requires-clause-there : goal.pass_message-requires-clause-there
pass_message-requires-clause-there c =
    let k : KernelState = state_of c.args.self.now in
    subst (λ (r : ReachState). c.args.handler < length r.messages.items) (sym c.keep_at_hand.ensures)
    (message_below k c.args.handler c.requires.tables
    (near_there k.contexts c.args.ec c.args.handler c.requires.there (admitted_near k.contexts c.args.ec c.args.handler c.requires.admitted)))
