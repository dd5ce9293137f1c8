use Rattle.std.proofs.Common.{rules}
use Rattle.nova_lock.proofs.Steps.{draws}
use Rattle.nova_lock.proofs.lock.HistoryLock.draw.Goals as goal

pub fetch_add-requires : goal.fetch_add-requires
fetch_add-requires g c = (search rules, search rules, draws g.T.Historied.opening g.T.Historied.history g.T.Historied.uses _ _ _ _ c.requires.idle.0)
