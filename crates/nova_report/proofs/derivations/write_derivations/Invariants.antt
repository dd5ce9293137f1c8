use Rattle.std.proofs.Common.{◌≡◌, ◌++◌, string_bytes, flat_map, filter, length}
use Rattle.nova_report.specs.Report.{derivation_line, derivation_lines}
use Rattle.nova_model.specs.Delegations.{is_from}
use Rattle.nova_report.proofs.derivations.write_derivations.Given as goal

abbrev pub invariant-loop-derivation : goal.invariant-loop-derivation
invariant-loop-derivation l =
    string_bytes l.out ++ flat_map derivation_line (filter (is_from l.id) l.kernel.state.delegations.list)
    ≡ string_bytes l.initial.out ++ derivation_lines l.kernel.state

abbrev pub decreases-loop-derivation : goal.decreases-loop-derivation
decreases-loop-derivation l = length (filter (is_from l.id) l.kernel.state.delegations.list)
