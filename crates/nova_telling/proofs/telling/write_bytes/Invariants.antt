use Rattle.std.proofs.Common.{◌≡◌, ◌++◌, string_bytes, flat_map, drop}
use Rattle.nova_report.specs.Words.{hexadecimal}
use Rattle.nova_telling.specs.Told.{bytes_text}
use Rattle.nova_telling.proofs.telling.write_bytes.Given as goal

abbrev pub invariant-loop-byte : goal.invariant-loop-byte
invariant-loop-byte l = string_bytes l.out ++ flat_map (hexadecimal 2) (drop l.byte-index l.bytes) ≡ string_bytes l.initial.out ++ bytes_text l.bytes
