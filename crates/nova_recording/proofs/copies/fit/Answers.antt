use Rattle.nova_recording.proofs.Copied.{all_among, among_those}
use Rattle.nova_recording.proofs.copies.fit.Goals as goal

pub loop-kept-init : goal.loop-kept-init
loop-kept-init c = all_among c.args.kept.now.items

pub loop-kept-preserved : goal.loop-kept-preserved
loop-kept-preserved c = among_those c.thin.new.kept.items c.loop-kept.kept.items c.args.kept.now.items c.thin.ensures.among c.loop-kept.invariant
