use Rattle.std.proofs.Common.{◌≡◌, ◌++◌, string_bytes, flat_map, filter, drop}
use Rattle.nova_report.specs.Report.{is_of, byte_text}
use Rattle.nova_report.proofs.consoles.write_bytes.Given as goal

abbrev pub invariant-loop-byte : goal.invariant-loop-byte
invariant-loop-byte l =
    string_bytes l.out ++ flat_map byte_text (filter (is_of l.console) (drop l.byte-index l.log))
    ≡ string_bytes l.initial.out ++ flat_map byte_text (filter (is_of l.console) l.log)
