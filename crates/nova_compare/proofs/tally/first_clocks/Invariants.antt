use Rattle.std.proofs.Common.{◌≡◌, replicate}
use Rattle.nova_compare.proofs.tally.first_clocks.Given as goal

-- those so far
abbrev pub invariant-loop-cpu : goal.invariant-loop-cpu
invariant-loop-cpu l = l.clocks.items ≡ replicate l._cpu 0
