use Rattle.std.proofs.Common.{rules}
use Rattle.nova_lock.proofs.Steps.{heeds}
use Rattle.nova_lock.proofs.lock.HistoryLock.heed.Goals as goal

pub load-drawn-requires : goal.load-drawn-requires
load-drawn-requires g c = (search rules, search rules, heeds g.T.Historied.opening g.T.Historied.history g.T.Historied.uses _ _ _ _ c.requires.owed.0)
