use Rattle.std.proofs.Common.{◌∙◌, sym, find}
use Rattle.std.specs.List.{enumerate_from}
use Rattle.law_sides.proofs.Lists.{numbered_found}
use Rattle.nova_flowing.specs.Premises.{is_waiting}
use Rattle.nova_flowing.proofs.deciding.first_waiting.Goals as goal

pub returns-then-is_waiting : goal.returns-then-is_waiting
returns-then-is_waiting c =
    numbered_found (is_waiting c.args.kernel.now.state c.args.v.now) c.objects-object-items.result.now c.loop-i.i _ c.loop-i-test.true
    (find (is_waiting c.args.kernel.now.state c.args.v.now) (enumerate_from 0 c.args.kernel.now.state.objects)) c.loop-i.invariant (sym c.is_waiting.ensures ∙ c.if-is_waiting.true)
