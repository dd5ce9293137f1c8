use Rattle.std.proofs.Common.{rules, arith, IsSome, sym, subst, ◌∙◌, ◌-◌, ◌<◌}
use Rattle.nova_model.specs.State.{ec_in}
use Rattle.nova_ec.specs.Tables.{EcTable}
use Rattle.nova_turn.specs.Beside.{with_regs}
use Rattle.nova_turn.specs.Parts.{state_of}
use Rattle.nova_kernel.proofs.Rides.{raise_stays}
use Rattle.nova_kernel.proofs.riding.ride_beside.Goals as goal

pub step_beside-requires-clause-there : goal.step_beside-requires-clause-there
step_beside-requires-clause-there c = subst (λ (t : EcTable). IsSome (ec_in t.items c.args.ec)) (sym c.loop-left.invariant.2) c.requires.there

pub step_beside-requires-clause-counted : goal.step_beside-requires-clause-counted
step_beside-requires-clause-counted c =
    let few = c.loop-left.invariant.6 in
    let test = c.loop-left-test.true in
    let fewer : c.args.most - c.loop-left.left < c.args.most = grind (arith, few, test) in
    (c.requires.counts (c.args.most - c.loop-left.left) (with_regs (state_of c.loop-left.parts) c.args.ec c.loop-left.regs) fewer c.loop-left.invariant.0).counted

pub step_beside-requires-clause-few : goal.step_beside-requires-clause-few
step_beside-requires-clause-few c =
    let few = c.loop-left.invariant.6 in
    let test = c.loop-left-test.true in
    let fewer : c.args.most - c.loop-left.left < c.args.most = grind (arith, few, test) in
    (c.requires.counts (c.args.most - c.loop-left.left) (with_regs (state_of c.loop-left.parts) c.args.ec c.loop-left.regs) fewer c.loop-left.invariant.0).few

pub returns-in-Raise-clause-raised : goal.returns-in-Raise-clause-raised
returns-in-Raise-clause-raised c =
    let few = c.loop-left.invariant.6 in
    let test = c.loop-left-test.true in (
      grind (arith, few, test),
      raise_stays (with_regs (state_of c.loop-left.parts) c.args.ec c.loop-left.regs) (with_regs (state_of c.step_beside.new.self) c.args.ec c.step_beside.new.regs) c.args.ec c.in-Raise.reason c.in-Raise.q0 c.in-Raise.q1
          (sym c.in-Raise.is ∙ c.step_beside.ensures.outcome) (c.step_beside.ensures.raised c.in-Raise.reason c.in-Raise.q0 c.in-Raise.q1 c.in-Raise.is),
    )

pub loop-left-preserved : goal.loop-left-preserved
loop-left-preserved c = (
  search rules,
  c.step_beside.ensures.entered,
  c.step_beside.ensures.contexts ∙ c.loop-left.invariant.2,
  c.step_beside.ensures.queues ∙ c.loop-left.invariant.3,
  c.step_beside.ensures.revokes ∙ c.loop-left.invariant.4,
  search rules,
  search rules,
  search rules,
  c.step_beside.ensures.seers,
)
