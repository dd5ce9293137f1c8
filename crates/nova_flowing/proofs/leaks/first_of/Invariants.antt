use Rattle.std.proofs.Common.{◌≡◌, drop}
use Rattle.std.specs.List.{enumerate_from}
use Rattle.nova_kernel.specs.Begun.{sources_of}
use Rattle.nova_flowing.specs.Leaks.{first_some, leak_of}
use Rattle.nova_flowing.specs.Premises.{home_of, part_of}
use Rattle.nova_flowing.proofs.leaks.first_of.Given as goal

abbrev pub invariant-loop-i : goal.invariant-loop-i
invariant-loop-i l =
    first_some (leak_of (part_of l.v) (home_of l.v) l.premise) (enumerate_from l.i (drop l.i l.source-items))
    ≡ first_some (leak_of (part_of l.v) (home_of l.v) l.premise) (enumerate_from 0 (sources_of l.kernel.state))
