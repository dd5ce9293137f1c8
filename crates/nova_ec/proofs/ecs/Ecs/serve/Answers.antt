use Rattle.std.proofs.Common.{◌≡◌, ◌∙◌, ap, sym, subst}
use Rattle.std.specs.Prelude.{IsSome, None, Some}
use Rattle.nova_model.specs.Deeds.{serving}
use Rattle.nova_model.specs.Edges.{MayServe}
use Rattle.nova_model.specs.State.{ec_in, ec_of}
use Rattle.nova_model.specs.declared.context.EcState.{EcState}
use Rattle.nova_ec.specs.Tables.{EcTable}
use Rattle.nova_ec.proofs.Changes.{serving_may}
use Rattle.nova_ec.proofs.Places.{read_there, serving_waits, set_there, sound_put}
use Rattle.nova_ec.proofs.Tables.{ec_of-there}
use Rattle.nova_ec.proofs.ecs.Ecs.serve.Goals as goal

there : (c : goal.After-self-2-1) → ec_in c.self.inside.items.items c.args.ec ≡ Some c.in-Some.context
there c = read_there _ _ c.args.ec c.index_mut.result.now c.in-Some.context c.self.view_is c.requires.there c.index_mut.ensures.value c.in-Some.is

pub invariant_of-self : goal.invariant_of-self
invariant_of-self c =
    let cs = c.self.inside.items.items in
    let a = c.args in
    let some = subst (λ (t : EcTable). IsSome (ec_in t.items a.ec)) (sym c.self.view_is) c.requires.there in
    let may = subst (λ (t : EcTable). MayServe t.items a.ec (Some (a.caller, a.mark))) (sym c.self.view_is) c.requires.caller in
    let old = ec_of cs a.ec in
    sound_put c.self.inside.spare cs c.self.inside.waiters.items c.leave.new.waiters.items a.ec c.begin.new.context
    (serving old a.caller a.mark a.ip a.identifier a.items) c.edge_of.result None
    (c.begin.ensures ∙ ap (λ (x : EcState). serving x a.caller a.mark a.ip a.identifier a.items) (sym (ec_of-there cs a.ec c.in-Some.context (there c))))
    (serving_may cs a.ec a.caller a.ip a.identifier a.mark a.items some may) (serving_waits old a.caller a.mark a.ip a.identifier a.items)
    c.leave.ensures.items c.leave.ensures.len c.leave.ensures.capacity c.self.invariant

pub returns : goal.returns
returns c =
    set_there _ _ c.args.ec c.in-Some.context c.begin.new.context
    (λ (x : EcState). serving x c.args.caller c.args.mark c.args.ip c.args.identifier c.args.items) c.self.view_is (there c) c.begin.ensures
