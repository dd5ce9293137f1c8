use Rattle.nova_utcb.proofs.ExitLaws.{pc_unnamed, low_unnamed, high_unnamed}
use Rattle.nova_utcb.proofs.laws.groups_not_named_stay.Goals as goal

pub returns-clause-low : goal.returns-clause-low
returns-clause-low c = low_unnamed

pub returns-clause-high : goal.returns-clause-high
returns-clause-high c = high_unnamed

pub returns-clause-pc : goal.returns-clause-pc
returns-clause-pc c = pc_unnamed
