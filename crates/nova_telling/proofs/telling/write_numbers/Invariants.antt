use Rattle.std.proofs.Common.{◌≡◌, ◌++◌, string_bytes, flat_map, drop}
use Rattle.nova_telling.specs.Told.{number_text, numbers_text}
use Rattle.nova_telling.proofs.telling.write_numbers.Given as goal

abbrev pub invariant-loop-number : goal.invariant-loop-number
invariant-loop-number l = string_bytes l.out ++ flat_map number_text (drop l.number-index l.numbers) ≡ string_bytes l.initial.out ++ numbers_text l.numbers
