use Rattle.std.proofs.Common.{◌∙◌, ◌∷◌, [], ℕ, List, ap, length, refl, sym, subst}
use Rattle.nova_objects.specs.declared.object.Object.{Object}
use Rattle.nova_choice.specs.Schedules.{AreQueuedBeyond, remarked}
use Rattle.nova_turn.specs.Homes.{Includes}
use Rattle.nova_turn.specs.Parts.{state_of}
use Rattle.nova_model.specs.State.{KernelState}
use Rattle.nova_sched.specs.Queues.{Schedule}
use Rattle.nova_choice.proofs.Marks.{all_beyond, marked_own, none_own, refreshed_shown}
use Rattle.nova_turn.proofs.parts.Parts.refresh_own.Goals as goal

pub returns-in-Empty-clause-queued : goal.returns-in-Empty-clause-queued
returns-in-Empty-clause-queued c =
    let p = c.args.self.now in
    none_own (state_of p) p.queues.all c.args.moved c.args.at c.requires (λ sc own. subst (Includes sc) c.in-Empty.is (c.schedules_of.ensures sc own))

pub returns-in-Single-clause-shown : goal.returns-in-Single-clause-shown
returns-in-Single-clause-shown c =
    let p = c.args.self.now in
    let scs : List ℕ = c.in-Single.sc ∷ [] in
    refreshed_shown (state_of p) p.queues.all c.mark_one.new.queues.all (length p.objects.items) scs refl refl
    (c.mark_one.ensures ∙ ap (λ (os : List Object). remarked os p.contexts.items scs p.queues.all) c.table.ensures)

pub returns-in-Single-clause-queued : goal.returns-in-Single-clause-queued
returns-in-Single-clause-queued c =
    let p = c.args.self.now in
    let scs : List ℕ = c.in-Single.sc ∷ [] in
    let is = c.mark_one.ensures ∙ ap (λ (os : List Object). remarked os p.contexts.items scs p.queues.all) c.table.ensures in
    let shown = refreshed_shown (state_of p) p.queues.all c.mark_one.new.queues.all (length p.objects.items) scs refl refl is in
    subst (λ (k : KernelState). AreQueuedBeyond c.args.moved c.args.at k c.mark_one.new.queues.all) (sym shown)
    (subst (λ (s : Schedule). AreQueuedBeyond c.args.moved c.args.at (state_of p) s) (sym is)
    (marked_own (state_of p) p.queues.all c.args.moved c.args.at c.in-Single.sc c.requires (λ sc own. subst (Includes sc) c.in-Single.is (c.schedules_of.ensures sc own))))

pub refresh_all-requires : goal.refresh_all-requires
refresh_all-requires c = c.requires.near

pub returns-in-Several-clause-queued : goal.returns-in-Several-clause-queued
returns-in-Several-clause-queued c = all_beyond _ _ c.args.moved c.args.at c.refresh_all.ensures.queued
