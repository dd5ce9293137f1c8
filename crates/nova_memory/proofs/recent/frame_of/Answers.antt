use Rattle.nova_memory.proofs.Recents.{hit, hit_there}
use Rattle.nova_memory.proofs.recent.frame_of.Goals as goal

pub returns-then-recent-address-clause-frame : goal.returns-then-recent-address-clause-frame
returns-then-recent-address-clause-frame c = λ s right is. hit s right c.args.address c.args.recent.now c.ranges.address.fits c.if-recent-address.true is

pub returns-then-recent-address-clause-there : goal.returns-then-recent-address-clause-there
returns-then-recent-address-clause-there c = λ s right leads is. hit_there s right c.args.address c.args.recent.now c.ranges.address.fits c.if-recent-address.true is leads
