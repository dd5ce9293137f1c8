use Rattle.std.proofs.Common.{◌≡◌, find, drop}
use Rattle.std.specs.List.{enumerate_from}
use Rattle.nova_flowing.specs.Premises.{is_waiting}
use Rattle.nova_flowing.proofs.deciding.first_waiting.Given as goal

abbrev pub invariant-loop-i : goal.invariant-loop-i
invariant-loop-i l =
    find (is_waiting l.kernel.state l.v) (enumerate_from l.i (drop l.i l.object-items)) ≡ find (is_waiting l.kernel.state l.v) (enumerate_from 0 l.kernel.state.objects)
