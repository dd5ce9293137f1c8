use Rattle.nova_model.specs.State.{KernelState}
use Rattle.nova_turn.specs.Parts.{state_of}
use Rattle.nova_deeds.proofs.Served.{message_below, served_there}
use Rattle.nova_turn.proofs.parts.Parts.reply_to.Goals as goal

pub bring-requires-clause-there : goal.bring-requires-clause-there
bring-requires-clause-there c =
    let k : KernelState = state_of c.args.self.now in
    message_below k c.args.caller c.requires.tables (served_there k.contexts c.args.ec c.args.caller c.args.mark c.keeps_callers.ensures c.requires.caller)
