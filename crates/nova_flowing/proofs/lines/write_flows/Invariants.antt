use Rattle.std.proofs.Common.{◌≡◌, ◌++◌, string_bytes, flat_map, drop}
use Rattle.std.specs.List.{enumerate_from}
use Rattle.nova_flowing.specs.Lines.{flow_line}
use Rattle.nova_flowing.proofs.lines.write_flows.Given as goal

abbrev pub invariant-loop-n : goal.invariant-loop-n
invariant-loop-n l =
    string_bytes l.out ++ flat_map (flow_line l.policy l.kernel.state l.lapses l.labels) (enumerate_from l.n (drop l.n l.labels))
    ≡ string_bytes l.initial.out ++ flat_map (flow_line l.policy l.kernel.state l.lapses l.labels) (enumerate_from 0 l.labels)
