use Rattle.std.proofs.Common.{◌≡◌, ◌++◌, ◌-◌, string_bytes, flat_map}
use Rattle.std.specs.List.{range_with_len}
use Rattle.nova_flowing.specs.Lines.{home_text, homes_text}
use Rattle.nova_flowing.specs.Tests.{is_in}
use Rattle.nova_flowing.proofs.lines.write_homes.Given as goal

abbrev pub invariant-loop-cpu : goal.invariant-loop-cpu
invariant-loop-cpu l = string_bytes l.out ++ flat_map (home_text (is_in l.home)) (range_with_len l.cpu (l.cpus - l.cpu)) ≡ string_bytes l.initial.out ++ homes_text (is_in l.home) l.cpus
