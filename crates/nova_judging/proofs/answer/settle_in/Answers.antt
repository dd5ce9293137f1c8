use Rattle.nova_judging.proofs.Settled.{settled}
use Rattle.nova_judging.proofs.answer.settle_in.Goals as goal

pub returns : goal.returns
returns c = settled c.args.tied.now c.args.labels.now _ _ c.settle.ensures.respected c.settle.ensures.trusted c.settle.ensures.joined c.settle.ensures.finest c.settle.ensures.stuck c.settle.ensures.least
