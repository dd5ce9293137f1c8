use Rattle.nova_gsi.proofs.Told.{fired_all, fired_until, of_moments}
use Rattle.nova_gsi.proofs.laws.firings_are_of_their_moments.Goals as goal

pub returns-clause-moments : goal.returns-clause-moments
returns-clause-moments c = of_moments

pub returns-clause-until : goal.returns-clause-until
returns-clause-until c = fired_until

pub returns-clause-quiet : goal.returns-clause-quiet
returns-clause-quiet c = fired_all
