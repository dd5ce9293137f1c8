use Rattle.std.proofs.Common.{◌∙◌, sym, find}
use Rattle.std.specs.List.{enumerate_from}
use Rattle.nova_ties.specs.Ties.{label_in}
use Rattle.law_sides.specs.Resting.{is_stirring}
use Rattle.law_sides.proofs.Lists.{numbered_found}
use Rattle.nova_sides.proofs.resting.first_stirring.Goals as goal

pub returns-then-is_stirring : goal.returns-then-is_stirring
returns-then-is_stirring c =
    numbered_found (is_stirring c.args.kernel.now.state (label_in c.args.labels.now)) c.objects-object-items.result.now c.loop-i.i _ c.loop-i-test.true
    (find (is_stirring c.args.kernel.now.state (label_in c.args.labels.now)) (enumerate_from 0 c.args.kernel.now.state.objects)) c.loop-i.invariant (sym c.is_stirring.ensures ∙ c.if-is_stirring.true)
