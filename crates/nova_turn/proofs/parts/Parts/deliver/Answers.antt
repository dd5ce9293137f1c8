use Rattle.std.proofs.Common.{refl, ◌∙◌}
use Rattle.nova_turn.specs.Parts.{state_of}
use Rattle.nova_turn.proofs.parts.Parts.deliver.Goals as goal

pub returns-clause-fits : goal.returns-clause-fits
returns-clause-fits c =
    c.next_deed.ensures.fits (state_of c.args.self.now) c.args.ec (record { delegations = refl; running = c.as_slice.ensures ∙ c.requires.running.list })
    c.delivery-delivery.ensures.given
