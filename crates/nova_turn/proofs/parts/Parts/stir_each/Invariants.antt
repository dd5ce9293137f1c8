use Rattle.std.proofs.Common.{◌≡◌}
use Rattle.std.specs.Prelude.{drop}
use Rattle.nova_turn.specs.Parts.{state_of}
use Rattle.nova_deeds.specs.Stirs.{is_stirring}
use Rattle.nova_deeds.specs.StirCounts.{risen_from}
use Rattle.nova_deeds.specs.StirCounts.{numbers_from}
use Rattle.nova_deeds.proofs.StirTables.{but}
use Rattle.nova_turn.proofs.parts.Parts.stir_each.Given as goal

-- those that are left are still to rise
abbrev pub invariant-loop-i : goal.invariant-loop-i
invariant-loop-i l = record {
  counts : l.self.guests.counts ≡ risen_from (but (is_stirring (state_of l.fn.self) l.fn.self.reach.written l.ec l.deed) (drop l.i (numbers_from 0 l.fn.self.guests.counts))) 0
      l.fn.self.guests.counts;
  rest : l.self ≡ record l.fn.self { guests = l.self.guests };
}
