use Rattle.std.proofs.Common.{ap, subst, sym, ◌∙◌}
use Rattle.nova_deeds.specs.StirCounts.{StirTable}
use Rattle.nova_deeds.specs.Stirs.{is_stirring}
use Rattle.nova_turn.specs.Homes.{AreStirred}
use Rattle.nova_turn.specs.Parts.{state_of}
use Rattle.nova_turn.specs.declared.tables.inventory.Numbers.{Numbers}
use Rattle.nova_turn.proofs.Whom.{none_rises, one_rises, one_stays}
use Rattle.nova_turn.proofs.parts.Parts.stir_these.Goals as goal

pub returns-in-Empty-clause-counts : goal.returns-in-Empty-clause-counts
returns-in-Empty-clause-counts c =
    let k = state_of c.args.self.now in
    let s = is_stirring k c.args.self.now.reach.written c.args.ec c.args.deed in
    none_rises k s c.requires.counted (subst (λ (guests : Numbers). AreStirred k s guests) c.in-Empty.is c.requires.these)

pub returns-then-is_stirring-clause-counts : goal.returns-then-is_stirring-clause-counts
returns-then-is_stirring-clause-counts c =
    let k = state_of c.args.self.now in
    let s = is_stirring k c.args.self.now.reach.written c.args.ec c.args.deed in
    ap (λ (t : StirTable). t.counts) c.rise.ensures
    ∙ one_rises k s c.in-Single.guest c.requires.counted (subst (λ (guests : Numbers). AreStirred k s guests) c.in-Single.is c.requires.these)
    (sym c.is_stirring.ensures ∙ c.if-is_stirring.true)

pub returns-else-is_stirring-clause-counts : goal.returns-else-is_stirring-clause-counts
returns-else-is_stirring-clause-counts c =
    let k = state_of c.args.self.now in
    let s = is_stirring k c.args.self.now.reach.written c.args.ec c.args.deed in
    one_stays k s c.in-Single.guest c.requires.counted (subst (λ (guests : Numbers). AreStirred k s guests) c.in-Single.is c.requires.these)
    (sym c.is_stirring.ensures ∙ c.if-is_stirring.false)
