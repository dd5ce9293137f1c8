use Rattle.std.proofs.Common.{length, refl}
use Rattle.nova_turn.specs.Parts.{state_of}
use Rattle.nova_deeds.proofs.Charges.{paid_shown}
use Rattle.nova_turn.proofs.parts.Parts.pay.Goals as goal

pub returns-clause-paid : goal.returns-clause-paid
returns-clause-paid c =
    paid_shown (state_of c.args.self.now) c.args.self.now.queues.all c.charge.new.self.all (length c.args.self.now.objects.items) c.args.sc c.requires.queued refl
    c.requires.there c.charge.ensures.charged
