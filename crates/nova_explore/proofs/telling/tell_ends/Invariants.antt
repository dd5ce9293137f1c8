use Rattle.std.proofs.Common.{◌≡◌, ◌+◌, ◌++◌, flat_map, drop}
use Rattle.std.specs.List.{enumerate_from}
use Rattle.nova_explore.specs.Texts.{end_text, ends_text}
use Rattle.nova_explore.proofs.telling.tell_ends.Given as goal

-- what is written and what is left to write
abbrev pub invariant-loop-i : goal.invariant-loop-i
invariant-loop-i l = l.out.items ++ flat_map end_text (enumerate_from (l.i + 1) (drop l.i l.end-items)) ≡ ends_text l.cpus l.limit l.ends.extent l.ends.states l.ends.ends.items
