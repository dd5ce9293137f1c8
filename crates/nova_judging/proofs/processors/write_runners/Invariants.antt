use Rattle.std.proofs.Common.{◌≡◌, ◌++◌, string_bytes, flat_map, drop}
use Rattle.std.specs.List.{enumerate_from}
use Rattle.nova_judging.specs.Processors.{runner_text}
use Rattle.nova_judging.proofs.processors.write_runners.Given as goal

abbrev pub invariant-loop-n : goal.invariant-loop-n
invariant-loop-n l =
    string_bytes l.out ++ flat_map (runner_text l.policy l.kernel.state l.labels l.cpu) (enumerate_from l.n (drop l.n l.labels))
    ≡ string_bytes l.initial.out ++ flat_map (runner_text l.policy l.kernel.state l.labels l.cpu) (enumerate_from 0 l.labels)
