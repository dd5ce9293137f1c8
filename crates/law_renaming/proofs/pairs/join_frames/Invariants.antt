use Rattle.std.proofs.Common.{◌≡◌, ◌+◌, ◌-◌}
use Rattle.law_renaming.specs.Forced.{paired}
use Rattle.law_renaming.specs.Walks.{joined}
use Rattle.law_renaming.proofs.pairs.join_frames.Given as goal

abbrev pub invariant-loop-i : goal.invariant-loop-i
invariant-loop-i l =
    joined l.u l.v l.met.items (paired (l.count - l.i) (l.a + l.i) (l.b + l.i)) ≡ joined l.u l.v l.fn.met.items (paired l.count l.a l.b)
