use Rattle.nova_range.proofs.Meetings.{shared, within}
use Rattle.nova_range.proofs.laws.ranges_meet_by_their_places.Goals as goal

pub returns-clause-overlap : goal.returns-clause-overlap
returns-clause-overlap c = shared

pub returns-clause-inside : goal.returns-clause-inside
returns-clause-inside c = within
