use Rattle.std.proofs.Common.{rules}
use Rattle.nova_lock.proofs.Seating.{joins}
use Rattle.nova_lock.proofs.lock.HistoryLock.take_in.Goals as goal

pub join_seat-requires : goal.join_seat-requires
join_seat-requires g c = (search rules, search rules, search rules, search rules, joins g.T.Historied.opening g.T.Historied.history g.T.Historied.uses _ _ _ _ _ (search rules) (search rules) (search rules))
