use Rattle.std.proofs.Common.{◌≡◌, ◌∙◌, sym, subst}
use Rattle.std.proofs.lemmas.List.{length-set}
use Rattle.std.specs.Prelude.{IsSome, Some}
use Rattle.rv_model.specs.Step.{one}
use Rattle.rv_core.specs.Steps.{space_of}
use Rattle.nova_model.specs.State.{ec_in, ec_of, with_ec}
use Rattle.nova_model.specs.declared.context.EcState.{EcState}
use Rattle.nova_ec.specs.Tables.{EcTable, StepsIn, Steps, with_items}
use Rattle.nova_ec.proofs.Tables.{ec_of-there, ec_read, edges_kept, numbered_set}
use Rattle.nova_ec.proofs.Callers.{callers_kept}
use Rattle.nova_ec.proofs.Steps.{steady, steps_there}
use Rattle.nova_ec.proofs.Waiting.{known_kept}
use Rattle.nova_ec.proofs.ecs.Ecs.step.Given as given
use Rattle.nova_ec.proofs.ecs.Ecs.step.Goals as goal

there : (g : given.Over) (c : goal.After-self-2-1 g) → ec_in c.self.inside.items.items c.args.ec ≡ Some c.in-Some.context
there g c =
    ec_read c.self.inside.items.items c.args.ec c.index_mut.result.now c.in-Some.context
    (subst (λ (t : EcTable). IsSome (ec_in t.items c.args.ec)) (sym c.self.view_is) c.requires.there) c.index_mut.ensures.value c.in-Some.is

pub invariant_of-self : goal.invariant_of-self
invariant_of-self g c =
    let kept = steady g.B.Bus.stored _ c.in-Some.context c.step_in.new.context _ _ c.step_in.result c.step_in.ensures in (
      edges_kept c.self.inside.items.items c.args.ec c.in-Some.context c.step_in.new.context c.self.invariant.0 (there g c) kept.cpu kept.state,
      c.self.invariant.1,
      numbered_set c.self.inside.items.items c.args.ec c.in-Some.context c.step_in.new.context (there g c) kept.id c.self.invariant.2,
      callers_kept c.self.inside.items.items c.args.ec c.in-Some.context c.step_in.new.context c.self.invariant.3 (there g c) kept.cpu kept.caller,
      c.self.invariant.4,
      c.self.invariant.5 ∙ sym (length-set c.self.inside.items.items c.args.ec (Some c.step_in.new.context)),
      known_kept c.self.inside.items.items c.self.inside.waiters.items c.args.ec c.in-Some.context c.step_in.new.context c.self.invariant.6 (there g c) kept.state,
    )

pub returns : goal.returns
returns g c =
    let space = space_of g.B.Bus.fetched g.B.Bus.loaded g.B.Bus.takes (g.B.Bus.state c.args.bus.now) in
    let before : EcTable = record { items = c.self.inside.items.items; spare = c.self.inside.spare } in
    let is : ec_of before.items c.args.ec ≡ c.in-Some.context = ec_of-there before.items c.args.ec c.in-Some.context (there g c) in
    let after : EcTable = with_items before (with_ec before.items c.args.ec c.step_in.new.context) in
    subst (λ (t : EcTable). Steps g.B.Bus.stored (one (ec_of t.items c.args.ec).regs space) t c.args.ec (g.B.Bus.state c.args.bus.now) c.step_in.result after (g.B.Bus.state c.step_in.new.bus))
    c.self.view_is
    (steps_there g.B.Bus.stored (one (ec_of before.items c.args.ec).regs space) before c.args.ec c.in-Some.context c.step_in.new.context (g.B.Bus.state c.args.bus.now)
    (g.B.Bus.state c.step_in.new.bus) c.step_in.result (there g c)
    (subst (λ (y : EcState). StepsIn g.B.Bus.stored (one y.regs space) c.in-Some.context (g.B.Bus.state c.args.bus.now) c.step_in.result c.step_in.new.context (g.B.Bus.state c.step_in.new.bus))
    (sym is) c.step_in.ensures))
