use Rattle.std.proofs.Common.{◌≡◌, Some, None, rules, ap, sym, subst}
use Rattle.nova_model.specs.State.{context_at}
use Rattle.nova_model.specs.declared.context.EcState.{EcState}
use Rattle.nova_touching.specs.Touching.{ActsAtMost}
use Rattle.nova_touching.proofs.Taking.{decides_result, rests_at_most, there_at}
use Rattle.nova_touching.proofs.touching.acting.Goals as goal

pub returns-in_default : goal.returns-in_default
returns-in_default c =
    let none : context_at c.args.kernel.now.state c.args.ec ≡ None = search rules in
    subst (ActsAtMost c.args.kernel.now.state c.args.ec) (sym c.nothing.ensures) (rests_at_most c.args.kernel.now.state c.args.ec none)

pub returns-then-not-executes : goal.returns-then-not-executes
returns-then-not-executes c =
    let is : context_at c.args.kernel.now.state c.args.ec ≡ Some c.in-Some.context.now = search rules in
    decides_result c.args.kernel.now.state c.args.ec c.in-Some.context.now c.new.result.items c.deciding.result c.if-not-executes.ensures.no
    (there_at c.args.kernel.now.state c.args.ec c.in-Some.context.now is) c.new.ensures.items c.deciding.ensures

pub sight_of-sight-requires : goal.sight_of-sight-requires
sight_of-sight-requires c =
    let is : context_at c.args.kernel.now.state c.args.ec ≡ Some c.in-Some.context.now = search rules in
    ap (λ (x : EcState). x.regs) (there_at c.args.kernel.now.state c.args.ec c.in-Some.context.now is)

pub executing-requires-clause-there : goal.executing-requires-clause-there
executing-requires-clause-there c =
    let is : context_at c.args.kernel.now.state c.args.ec ≡ Some c.in-Some.context.now = search rules in
    there_at c.args.kernel.now.state c.args.ec c.in-Some.context.now is
