use Rattle.std.proofs.Common.{◌≡◌}
use Rattle.std.specs.Prelude.{drop}
use Rattle.nova_sched.specs.Queues.{members}
use Rattle.nova_choice.specs.Schedules.{remarked}
use Rattle.nova_choice.proofs.queues.mark_all.Given as goal

-- those that are left are still to be marked, and none comes or goes
abbrev pub invariant-loop-i : goal.invariant-loop-i
invariant-loop-i l = record {
  left : remarked l.objects.items l.contexts.items (drop l.i (members l.queues.all l.cpu)) l.queues.all
      ≡ remarked l.objects.items l.contexts.items (members l.fn.queues.all l.cpu) l.fn.queues.all;
  members : members l.queues.all l.cpu ≡ members l.fn.queues.all l.cpu;
}
