use Rattle.std.proofs.Common.{◌≡◌, ◌∙◌, List, ap, refl, inl, inr, sym, subst}
use Rattle.std.specs.Prelude.{Some}
use Rattle.nova_model.specs.Edges.{MayWait, edge_of}
use Rattle.nova_model.specs.State.{ec_in}
use Rattle.nova_model.specs.declared.context.EcState.{EcState}
use Rattle.nova_ec.specs.Tables.{EcTable}
use Rattle.nova_ec.specs.Waiting.{changed, with_waiter}
use Rattle.nova_ec.specs.declared.waiters.Waiters.{Waiters}
use Rattle.nova_ec.proofs.Places.{read_there, set_there, sound_put}
use Rattle.nova_ec.proofs.ecs.Ecs.set_state.Goals as goal

there : (c : goal.After-self-2-1) → ec_in c.self.inside.items.items c.args.ec ≡ Some c.in-Some.context
there c = read_there _ _ c.args.ec c.index_mut.result.now c.in-Some.context c.self.view_is c.requires.there c.index_mut.ensures.value c.in-Some.is

pub invariant_of-self : goal.invariant_of-self
invariant_of-self c =
    let may = subst (λ (t : EcTable). MayWait t.items c.args.ec (edge_of c.args.state)) (sym c.self.view_is) c.requires.edge in
    sound_put c.self.inside.spare c.self.inside.items.items c.self.inside.waiters.items c.join.new.waiters.items c.args.ec _ (record c.in-Some.context { state = c.args.state })
    c.edge_of.result c.edge_of-2.result refl (c.in-Some.context, there c, refl, inr may, refl, inl refl) (sym c.edge_of-2.ensures)
    (c.join.ensures.items ∙ ap (λ (xs : List Waiters). changed (with_waiter c.args.ec) c.edge_of-2.result xs) c.leave.ensures.items)
    (c.join.ensures.len ∙ c.leave.ensures.len) (c.join.ensures.capacity ∙ c.leave.ensures.capacity) c.self.invariant

pub returns : goal.returns
returns c =
    set_there _ _ c.args.ec c.in-Some.context (record c.in-Some.context { state = c.args.state }) (λ (x : EcState). record x { state = c.args.state })
    c.self.view_is (there c) refl
