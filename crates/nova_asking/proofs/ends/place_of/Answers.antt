use Rattle.nova_asking.proofs.Ended.{none_there}
use Rattle.nova_asking.proofs.ends.place_of.Goals as goal

pub returns : goal.returns
returns c = none_there c.args.ends.now c.loop-i.i c.args.outcome.now c.loop-i.invariant c.loop-i-test.false
