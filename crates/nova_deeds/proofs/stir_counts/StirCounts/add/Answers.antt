use Rattle.std.proofs.Common.{arith}
use Rattle.std.proofs.lemmas.Grind.{common_steps}
use Rattle.nova_deeds.proofs.StirTables.{numbers_some, numbers_none}
use Rattle.nova_deeds.proofs.stir_counts.StirCounts.add.Goals.{then-is_some, else-is_some}
use Rattle.nova_deeds.proofs.stir_counts.StirCounts.add.Goals as goal

pub invariant_of-self : goal.invariant_of-self
invariant_of-self c = elim c.if-is_some.branch [
  | then-is_some w ↦
      let some = c.is_some.ensures in
      let is = w.if-is_some.true in
      let more = numbers_some c.self.inside.counts.items in
      let inside = w.self-inside-is in
      let had = c.self.invariant.0 in
      grind (arith, common_steps, some, is, more, inside, had)
  | else-is_some w ↦
      let none = c.is_some.ensures in
      let is = w.if-is_some.false in
      let more = numbers_none c.self.inside.counts.items in
      let inside = w.self-inside-is in
      let had = c.self.invariant.0 in
      grind (arith, common_steps, none, is, more, inside, had)
]
