use Rattle.nova_preview.proofs.Parts.{ready_in}
use Rattle.nova_preview.proofs.next.part_ahead.Goals as goal

pub returns-in-Some-clause-fits : goal.returns-in-Some-clause-fits
returns-in-Some-clause-fits c =
    λ k ec are given. c.parted.ensures.fits k ec (ready_in k c.args.reach.now c.args.revokes.now c.in-Some.child are c.in-Some.ensures.child)
