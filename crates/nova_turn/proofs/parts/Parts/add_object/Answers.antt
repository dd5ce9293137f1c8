use Rattle.std.proofs.Common.{◌≡◌, ◌++◌, ◌∷◌, [], length, arith, ap, ◌∙◌}
use Rattle.std.proofs.lemmas.Grind.{common_steps}
use Rattle.nova_model.specs.Creation.{budget_of, stamp_past}
use Rattle.nova_choice.specs.Schedules.{budgets_of, joined}
use Rattle.nova_deeds.proofs.Added.{added}
use Rattle.nova_choice.proofs.Budgets.{budgets_with, stamp_with}
use Rattle.nova_turn.proofs.parts.Parts.add_object.Goals as goal

pub returns-clause-added : goal.returns-clause-added
returns-clause-added c =
    let p = c.args.self.now in
    let joins : c.enqueue.new.queues.all ≡ joined p.contexts.items p.queues.all (length p.objects.items) c.args.new =
    c.enqueue.ensures ∙ ap (λ n. joined p.contexts.items p.queues.all n c.args.new) c.len-number.ensures in
    let budgets : budgets_of c.enqueue.new.queues.all (length (p.objects.items ++ c.object_of-object.result ∷ [])) ≡
    budgets_of p.queues.all (length p.objects.items) ++ budget_of p.queues.all.next_stamp c.args.new ∷ [] =
    budgets_with p.contexts.items p.queues.all c.enqueue.new.queues.all p.objects.items c.object_of-object.result c.args.new c.requires.few joins in
    let stamp : c.enqueue.new.queues.all.next_stamp ≡ stamp_past p.queues.all.next_stamp c.args.new =
    stamp_with p.contexts.items p.queues.all c.enqueue.new.queues.all (length p.objects.items) c.args.new joins in
    grind (arith, common_steps, added, budgets, stamp)
