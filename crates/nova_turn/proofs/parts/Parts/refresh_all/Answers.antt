use Rattle.std.proofs.Common.{◌≡◌, ◌∙◌, ℕ, List, ap, length, refl, sym, subst}
use Rattle.std.specs.Prelude.{Option, Some, None, option_map}
use Rattle.nova_objects.specs.declared.object.Object.{Object}
use Rattle.nova_model.specs.Edges.{cpu_in}
use Rattle.nova_model.specs.declared.context.EcState.{EcState}
use Rattle.nova_sched.specs.Queues.{members}
use Rattle.nova_choice.specs.Schedules.{AreQueuedBut, remarked}
use Rattle.nova_turn.specs.Parts.{state_of}
use Rattle.nova_choice.proofs.Marks.{refreshed_queued, refreshed_shown, remarked_queued}
use Rattle.nova_turn.proofs.parts.Parts.refresh_all.Goals as goal

pub returns-in_default-clause-queued : goal.returns-in_default-clause-queued
returns-in_default-clause-queued c =
    let p = c.args.self.now in
    let none : cpu_in p.contexts.items c.args.moved ≡ None =
    ap (option_map (λ (x : EcState). x.cpu)) (sym c.get.ensures.context ∙ ap (option_map (λ x. x.now)) c.in_default.is) in
    subst (λ (o : Option ℕ). AreQueuedBut o (state_of p) p.queues.all) none c.requires

pub returns-clause-shown : goal.returns-clause-shown
returns-clause-shown c =
    let p = c.args.self.now in
    let scs = members p.queues.all c.in-Some.context.now.cpu in
    refreshed_shown (state_of p) p.queues.all c.mark_all.new.queues.all (length p.objects.items) scs refl refl
    (c.mark_all.ensures ∙ ap (λ (os : List Object). remarked os p.contexts.items scs p.queues.all) c.table.ensures)

pub returns-clause-queued : goal.returns-clause-queued
returns-clause-queued c =
    let p = c.args.self.now in
    let home = c.in-Some.context.now.cpu in
    let scs = members p.queues.all home in
    let at : cpu_in p.contexts.items c.args.moved ≡ Some home =
    ap (option_map (λ (x : EcState). x.cpu)) (sym c.get.ensures.context ∙ ap (option_map (λ x. x.now)) c.in-Some.is) in
    let is = c.mark_all.ensures ∙ ap (λ (os : List Object). remarked os p.contexts.items scs p.queues.all) c.table.ensures in
    refreshed_queued (state_of p) _ p.queues.all c.mark_all.new.queues.all scs
    (remarked_queued (state_of p) p.queues.all home (subst (λ (o : Option ℕ). AreQueuedBut o (state_of p) p.queues.all) at c.requires))
    (refreshed_shown (state_of p) p.queues.all c.mark_all.new.queues.all (length p.objects.items) scs refl refl is) is
