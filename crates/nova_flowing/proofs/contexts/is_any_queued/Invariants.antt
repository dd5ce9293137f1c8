use Rattle.std.proofs.Common.{◌≡◌, drop}
use Rattle.std.specs.List.{enumerate_from, list_any}
use Rattle.nova_flowing.specs.Tests.{is_in, queues_of}
use Rattle.nova_flowing.proofs.contexts.is_any_queued.Given as goal

abbrev pub invariant-loop-i : goal.invariant-loop-i
invariant-loop-i l =
    list_any (queues_of l.kernel.state (is_in l.set) l.sm) (enumerate_from l.i (drop l.i l.object-items))
    ≡ list_any (queues_of l.kernel.state (is_in l.set) l.sm) (enumerate_from 0 l.kernel.state.objects)
