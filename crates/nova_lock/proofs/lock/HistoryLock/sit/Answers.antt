use Rattle.std.proofs.Common.{rules}
use Rattle.nova_lock.proofs.Seating.{splits}
use Rattle.nova_lock.proofs.lock.HistoryLock.sit.Goals as goal

pub split_seat-seat-requires : goal.split_seat-seat-requires
split_seat-seat-requires g c = (search rules, search rules, splits g.T.Historied.opening g.T.Historied.history g.T.Historied.uses _ _ _ (search rules) (search rules) (search rules))
