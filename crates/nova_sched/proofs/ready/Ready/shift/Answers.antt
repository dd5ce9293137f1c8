use Rattle.std.proofs.Common.{ap, sym, subst}
use Rattle.nova_model.specs.Forest.{ArePairs}
use Rattle.nova_sched.specs.Ready.{IsBehind, ReadyState}
use Rattle.nova_sched.proofs.Placing.{order_dropped}
use Rattle.nova_sched.proofs.ready.Ready.shift.Goals as goal

pub insert-requires-clause-order : goal.insert-requires-clause-order
insert-requires-clause-order c =
    subst (ArePairs IsBehind) (sym (ap (λ (r : ReadyState). r.items) c.remove.ensures))
    (order_dropped c.args.before c.args.self.now.items c.requires.order)
