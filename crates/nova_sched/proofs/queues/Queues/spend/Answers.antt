use Rattle.std.proofs.Common.{rules, refl, ◌≡◌, ◌∙◌, ◌<◌, length, ap, sym, subst}
use Rattle.std.specs.Prelude.{Option, slice_set, Some, IsSome, IfSome}
use Rattle.nova_sched.specs.Queues.{Schedule, QueuesState, queued_at, charged_schedules}
use Rattle.nova_sched.specs.Lists.{entry_in}
use Rattle.nova_sched.specs.declared.queued.Queued.{Queued}
use Rattle.nova_sched.proofs.Tables.{entry_at, queues_set}
use Rattle.nova_sched.specs.Precedence.{AreStamped}
use Rattle.nova_sched.specs.Ready.{items_at}
use Rattle.nova_sched.proofs.Readies.{ready_changed, ready_elsewhere, ready_paid}
use Rattle.nova_sched.proofs.Spending.{spent_is, stamped_still}
use Rattle.nova_sched.proofs.queues.Queues.spend.Goals as goal

pub invariant_of-self : goal.invariant_of-self
invariant_of-self c =
    let there : IsSome (entry_in c.self.inside.entries.items c.args.sc) = search rules in
    let is : entry_in c.self.inside.entries.items c.args.sc ≡ Some c.in-Some.payer = entry_at c.self.inside.entries.items c.args.sc c.index_mut.result.now there c.index_mut.ensures.value ∙ c.in-Some.is in
    let s : Schedule = record { entries = c.self.inside.entries.items; next_stamp = c.self.inside.next_stamp; cpus = length c.self.inside.queues.items } in
    let x = c.in-Some.payer in
    let y = c.use_up.new.entry in
    let are = c.self.invariant.1.1 in
    let at = ap (λ (e : Queued). e.cpu) c.use_up.ensures in
    let runs = ap (λ (e : Queued). e.is_runnable) c.use_up.ensures in
    let left : IfSome (entry_in c.self.inside.entries.items c.args.sc) (λ (e : Queued). c.args.count < e.budget.left) =
    subst (λ (q : QueuesState). IfSome (queued_at q.all c.args.sc) (λ (e : Queued). c.args.count < e.budget.left)) (sym c.self.view_is) c.requires.left in
    let few : c.args.count < x.budget.left = subst (λ (o : Option Queued). IfSome o (λ (e : Queued). c.args.count < e.budget.left)) is left in
    let t : Schedule = record { entries = slice_set c.self.inside.entries.items c.args.sc (Some y); next_stamp = c.self.inside.next_stamp; cpus = length c.self.inside.queues.items } in
    let same : t ≡ charged_schedules c.args.count s c.args.sc = ap (λ (e : Queued). record s { entries = slice_set s.entries c.args.sc (Some e) }) c.use_up.ensures ∙ spent_is c.args.count s c.args.sc x is few in
    let stamp : y.budget.stamp ≡ x.budget.stamp = ap (λ (e : Queued). e.budget.stamp) c.use_up.ensures in
    let stamped = subst AreStamped (sym same) (stamped_still c.args.count s c.args.sc are.stamped) in
    let here = ready_paid c.self.inside.entries.items (items_at c.self.inside.readies.items x.cpu) c.args.sc x.cpu x y (are.ready x.cpu) is at runs (ap (λ (e : Queued). e.priority) c.use_up.ensures) stamp in (
      queues_set c.self.inside.queues.items c.self.inside.entries.items c.args.sc x y c.self.invariant.0 is at,
      (
        c.self.invariant.1.0,
        ready_changed c.self.inside.queues.items c.self.inside.readies.items c.self.inside.readies.items s t x.cpu are refl (λ other off. refl) (λ other. refl) here
            (λ other off rs ready. ready_elsewhere c.self.inside.entries.items rs c.args.sc other x y is at off ready) stamped,
      ),
    )

pub returns-clause-charged : goal.returns-clause-charged
returns-clause-charged c =
    let there : IsSome (entry_in c.self.inside.entries.items c.args.sc) = search rules in
    let is : entry_in c.self.inside.entries.items c.args.sc ≡ Some c.in-Some.payer = entry_at c.self.inside.entries.items c.args.sc c.index_mut.result.now there c.index_mut.ensures.value ∙ c.in-Some.is in
    let s : Schedule = record { entries = c.self.inside.entries.items; next_stamp = c.self.inside.next_stamp; cpus = length c.self.inside.queues.items } in
    let left : IfSome (entry_in c.self.inside.entries.items c.args.sc) (λ (e : Queued). c.args.count < e.budget.left) =
    subst (λ (q : QueuesState). IfSome (queued_at q.all c.args.sc) (λ (e : Queued). c.args.count < e.budget.left)) (sym c.self.view_is) c.requires.left in
    let few : c.args.count < c.in-Some.payer.budget.left = subst (λ (o : Option Queued). IfSome o (λ (e : Queued). c.args.count < e.budget.left)) is left in
    subst (λ (q : QueuesState). ◌≡◌ {A = Schedule} (record { entries = slice_set c.self.inside.entries.items c.args.sc (Some c.use_up.new.entry); next_stamp = c.self.inside.next_stamp; cpus = length c.self.inside.queues.items }) (charged_schedules c.args.count q.all c.args.sc)) c.self.view_is
    (ap (λ (e : Queued). record s { entries = slice_set s.entries c.args.sc (Some e) }) c.use_up.ensures ∙ spent_is c.args.count s c.args.sc c.in-Some.payer is few)
