use Rattle.std.proofs.Common.{◌≡◌, drop}
use Rattle.std.specs.List.{enumerate_from}
use Rattle.nova_flowing.specs.Leaks.{first_some, leak_at}
use Rattle.nova_flowing.specs.Premises.{home_of, others_of, own_of, part_of}
use Rattle.nova_flowing.proofs.leaks.first_at.Given as goal

abbrev pub invariant-loop-i : goal.invariant-loop-i
invariant-loop-i l =
    first_some (leak_at l.kernel.state (own_of l.v) (others_of l.v) (part_of l.v) (home_of l.v) l.premise) (enumerate_from l.i (drop l.i l.object-items))
    ≡ first_some (leak_at l.kernel.state (own_of l.v) (others_of l.v) (part_of l.v) (home_of l.v) l.premise) (enumerate_from 0 l.kernel.state.objects)
