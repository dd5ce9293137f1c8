use Rattle.std.proofs.Common.{sym, ◌∙◌}
use Rattle.nova_preview.proofs.Parts.{delegation_told}
use Rattle.nova_preview.proofs.next.delegation_ahead.Goals as goal

pub returns-in-Ok-clause-deed : goal.returns-in-Ok-clause-deed
returns-in-Ok-clause-deed c =
    λ k are. c.part_ahead.ensures.deed
    ∙ delegation_told k c.args.reach.now c.args.revokes.now c.args.delivery c.args.transfer c.in-Ok.whole _ are (sym c.in-Ok.is ∙ c.job.ensures.exact)
