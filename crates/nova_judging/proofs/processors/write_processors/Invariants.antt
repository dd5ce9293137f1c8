use Rattle.std.proofs.Common.{◌≡◌, ◌++◌, ◌-◌, string_bytes, flat_map}
use Rattle.std.specs.List.{range_with_len}
use Rattle.nova_judging.specs.Processors.{processor_line, processor_lines}
use Rattle.nova_judging.proofs.processors.write_processors.Given as goal

abbrev pub invariant-loop-cpu : goal.invariant-loop-cpu
invariant-loop-cpu l =
    string_bytes l.out ++ flat_map (processor_line l.policy l.kernel.state l.labels) (range_with_len l.cpu (l.kernel.state.cpus - l.cpu))
    ≡ string_bytes l.initial.out ++ processor_lines l.policy l.kernel.state l.labels
