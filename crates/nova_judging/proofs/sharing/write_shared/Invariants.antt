use Rattle.std.proofs.Common.{◌≡◌, ◌++◌, flat_map, drop, string_bytes}
use Rattle.nova_judging.specs.Sharing.{shared_line}
use Rattle.nova_judging.proofs.sharing.write_shared.Given as goal

abbrev pub invariant-loop-sm : goal.invariant-loop-sm
invariant-loop-sm l =
    string_bytes l.out ++ flat_map (shared_line l.policy l.kernel.state l.labels) (drop l.sm-index l.shared)
    ≡ string_bytes l.initial.out ++ flat_map (shared_line l.policy l.kernel.state l.labels) l.shared
