use Rattle.nova_pair.proofs.guests.twin.Goals as goal

pub returns-clause-prepared : goal.returns-clause-prepared
returns-clause-prepared g c = c.both.ensures.prepared c.args.name.now c.args.depot.now c.in_ok-subjects.ensures.read c.in_ok-subjects.ensures.counts

pub returns-clause-fetches : goal.returns-clause-fetches
returns-clause-fetches g c = c.both.ensures.fetches c.args.name.now c.args.depot.now c.in_ok-subjects.ensures.read c.in_ok-subjects.ensures.fetches
