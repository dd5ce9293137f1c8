use Rattle.std.proofs.Common.{◌≡◌}
use Rattle.std.specs.Prelude.{drop}
use Rattle.nova_turn.specs.Parts.{state_of}
use Rattle.nova_turn.specs.StirCounts.{numbers_from}
use Rattle.nova_kernel.proofs.Stores.{but, grown, stores_for}
use Rattle.nova_kernel.proofs.burst.count_stores.Given as goal

-- the counts of those that are left are still to rise
abbrev pub invariant-loop-i : goal.invariant-loop-i
invariant-loop-i l = record {
  counts : l.parts.guests.counts ≡ grown (but (stores_for (state_of l.fn.parts) l.ec l.pages) (drop l.i (numbers_from 0 l.fn.parts.guests.counts))) 0 l.fn.parts.guests.counts;
  rest : l.parts ≡ record l.fn.parts { guests = l.parts.guests };
}
