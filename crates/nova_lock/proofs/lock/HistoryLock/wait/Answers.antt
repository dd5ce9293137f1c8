use Rattle.std.proofs.Common.{rules, ap, ◌∙◌}
use Rattle.nova_lock.proofs.Steps.{looks}
use Rattle.nova_lock.proofs.lock.HistoryLock.wait.Goals as goal

pub load-found-requires : goal.load-found-requires
load-found-requires g c = (
  search rules,
  search rules,
  looks g.T.Historied.opening g.T.Historied.history g.T.Historied.uses _ _ _ _ (ap (λ m. m.0.phase) c.loop.invariant.1 ∙ c.requires.waiting.0) (ap (λ m. m.1) c.loop.invariant.1 ∙ c.requires.waiting.2),
)
