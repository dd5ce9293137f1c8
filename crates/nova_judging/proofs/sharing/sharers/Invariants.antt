use Rattle.std.proofs.Common.{◌≡◌, ◌++◌, flat_map, drop}
use Rattle.std.specs.List.{enumerate_from}
use Rattle.nova_judging.specs.Sharing.{sharer_at, sharers}
use Rattle.nova_judging.proofs.sharing.sharers.Given as goal

abbrev pub invariant-loop-n : goal.invariant-loop-n
invariant-loop-n l =
    l.out.items ++ flat_map (sharer_at l.kernel.state l.labels l.sm) (enumerate_from l.n (drop l.n l.labels))
    ≡ sharers l.kernel.state l.labels l.sm
