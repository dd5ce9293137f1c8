use Rattle.std.proofs.Common.{◌≡◌, ◌++◌, flat_map, drop, string_bytes}
use Rattle.nova_judging.specs.Sharing.{next_text}
use Rattle.nova_judging.proofs.sharing.write_others.Given as goal

abbrev pub invariant-loop-label : goal.invariant-loop-label
invariant-loop-label l =
    string_bytes l.out ++ flat_map (next_text l.policy l.kernel.state l.labels l.sm) (drop l.label-index l.others)
    ≡ string_bytes l.initial.out ++ flat_map (next_text l.policy l.kernel.state l.labels l.sm) l.others
