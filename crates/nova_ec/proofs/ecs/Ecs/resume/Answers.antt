use Rattle.std.proofs.Common.{◌≡◌, refl, inl, inr}
use Rattle.std.specs.Prelude.{None, Some}
use Rattle.nova_model.specs.State.{ec_in}
use Rattle.nova_model.specs.declared.context.EcState.{EcState}
use Rattle.nova_model.specs.declared.context.State.TheVariants.{Ready}
use Rattle.nova_ec.proofs.Places.{read_there, set_there, sound_put}
use Rattle.nova_ec.proofs.ecs.Ecs.resume.Goals as goal

there : (c : goal.After-self-2-1) → ec_in c.self.inside.items.items c.args.ec ≡ Some c.in-Some.context
there c = read_there _ _ c.args.ec c.index_mut.result.now c.in-Some.context c.self.view_is c.requires c.index_mut.ensures.value c.in-Some.is

pub invariant_of-self : goal.invariant_of-self
invariant_of-self c =
    sound_put c.self.inside.spare c.self.inside.items.items c.self.inside.waiters.items c.leave.new.waiters.items c.args.ec _ (record c.in-Some.context { regs = c.args.regs.now; state = Ready }) c.edge_of.result None refl
    (c.in-Some.context, there c, refl, inr tt, refl, inl refl) refl c.leave.ensures.items c.leave.ensures.len c.leave.ensures.capacity c.self.invariant

pub returns : goal.returns
returns c =
    set_there _ _ c.args.ec c.in-Some.context (record c.in-Some.context { regs = c.args.regs.now; state = Ready }) (λ (x : EcState). record x { regs = c.args.regs.now; state = Ready })
    c.self.view_is (there c) refl
