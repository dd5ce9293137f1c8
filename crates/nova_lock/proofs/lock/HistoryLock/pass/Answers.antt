use Rattle.std.proofs.Common.{rules}
use Rattle.nova_lock.proofs.Steps.{passes}
use Rattle.nova_lock.proofs.lock.HistoryLock.pass.Goals as goal

pub fetch_add-passed-requires : goal.fetch_add-passed-requires
fetch_add-passed-requires g c = (search rules, search rules, passes g.T.Historied.opening g.T.Historied.history g.T.Historied.uses _ _ _ _ _ c.requires.gives.1)
