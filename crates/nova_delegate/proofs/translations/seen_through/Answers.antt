use Rattle.nova_delegate.proofs.Seen.{seen_range}
use Rattle.nova_delegate.proofs.translations.seen_through.Goals as goal

pub returns-clause-range : goal.returns-clause-range
returns-clause-range c = seen_range c.args.a.now c.args.d.now c.args.places c.requires
