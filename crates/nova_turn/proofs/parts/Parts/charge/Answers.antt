use Rattle.nova_turn.specs.Parts.{state_of}
use Rattle.nova_deeds.proofs.Charges.{charge_queued}
use Rattle.nova_turn.proofs.parts.Parts.charge.Goals as goal

pub returns-clause-queued : goal.returns-clause-queued
returns-clause-queued c =
    charge_queued (state_of c.args.self.now) (state_of c.pay.new.self) (state_of c.count.new.self) c.args.self.now.queues.all c.pay.new.self.queues.all
    c.count.new.self.queues.all c.args.cpu c.args.sc c.requires.queued c.requires.there c.pay.ensures.paid c.count.ensures.counted c.pay.ensures.charged
    c.count.ensures.queues
