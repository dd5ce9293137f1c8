use Rattle.std.proofs.Common.{subst}
use Rattle.std.specs.Prelude.{IfSome, Option}
use Rattle.nova_deeds.specs.Acts.{IsGivenBy}
use Rattle.nova_model.specs.declared.transfer.Delivery.{Delivery}
use Rattle.nova_preview.proofs.next.next_deed.Goals as goal

pub returns-in-Some-clause-fits : goal.returns-in-Some-clause-fits
returns-in-Some-clause-fits c = λ k ec are given.
    c.item_ahead.ensures.fits k ec are (subst (λ (o : Option Delivery). IfSome o (IsGivenBy k ec c.args.transfer.item)) c.in-Some.is given)
