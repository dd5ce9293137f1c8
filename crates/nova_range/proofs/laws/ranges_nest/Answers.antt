use Rattle.nova_range.proofs.Multiples.{end_within}
use Rattle.nova_range.proofs.Meetings.{nested}
use Rattle.nova_range.proofs.laws.ranges_nest.Goals as goal

pub returns-clause-end : goal.returns-clause-end
returns-clause-end c r is = end_within r.base r.order is.order is.aligned is.base

pub returns-clause-nested : goal.returns-clause-nested
returns-clause-nested c = nested
