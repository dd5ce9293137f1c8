use Rattle.std.proofs.Common.{rules, arith, ◌≡◌, ◌∙◌, List, length, refl, sym, subst}
use Rattle.std.specs.Prelude.{slice_set, Some, IsSome}
use Rattle.nova_sched.specs.Queues.{Schedule, QueuesState, marked}
use Rattle.nova_sched.specs.Lists.{entry_in}
use Rattle.nova_sched.proofs.Tables.{entry_at, queues_set}
use Rattle.nova_sched.specs.Precedence.{AreStamped}
use Rattle.nova_sched.specs.Ready.{IsReady, items_at}
use Rattle.nova_sched.specs.declared.queued.Queued.{Queued}
use Rattle.nova_sched.specs.declared.queued.Runnable.{Runnable}
use Rattle.nova_sched.proofs.Readiness.{cpu_there}
use Rattle.nova_sched.proofs.Readies.{ready_changed, ready_elsewhere, ready_requeued, room_for}
use Rattle.nova_sched.proofs.Stamps.{stamps_are_given_once}
use Rattle.nova_sched.proofs.Changes.{marked_is}
use Rattle.nova_sched.proofs.queues.Queues.set_runnable.Goals as goal

pub requeue-requires-clause-cpu : goal.requeue-requires-clause-cpu
requeue-requires-clause-cpu c =
    let there : IsSome (entry_in c.self.inside.entries.items c.args.sc) = search rules in
    let is : entry_in c.self.inside.entries.items c.args.sc ≡ Some c.in-Some.entry = entry_at c.self.inside.entries.items c.args.sc c.index_mut.result.now there c.index_mut.ensures.value ∙ c.in-Some.is in
    let are = c.self.invariant.1.1 in
    let low = cpu_there c.self.inside.queues.items c.self.inside.entries.items c.args.sc c.in-Some.entry c.self.invariant.0 is in
    let cpus = are.cpus in
    omega arith

pub requeue-requires-clause-room : goal.requeue-requires-clause-room
requeue-requires-clause-room c = λ off.
    let there : IsSome (entry_in c.self.inside.entries.items c.args.sc) = search rules in
    let is : entry_in c.self.inside.entries.items c.args.sc ≡ Some c.in-Some.entry = entry_at c.self.inside.entries.items c.args.sc c.index_mut.result.now there c.index_mut.ensures.value ∙ c.in-Some.is in
    let s : Schedule = record { entries = c.self.inside.entries.items; next_stamp = c.self.inside.next_stamp; cpus = length c.self.inside.queues.items } in
    room_for c.self.inside.queues.items c.self.inside.readies.items s c.args.sc c.in-Some.entry c.self.invariant.0 c.self.invariant.1.1 is off

pub invariant_of-self : goal.invariant_of-self
invariant_of-self c =
    let there : IsSome (entry_in c.self.inside.entries.items c.args.sc) = search rules in
    let is : entry_in c.self.inside.entries.items c.args.sc ≡ Some c.in-Some.entry = entry_at c.self.inside.entries.items c.args.sc c.index_mut.result.now there c.index_mut.ensures.value ∙ c.in-Some.is in
    let s : Schedule = record { entries = c.self.inside.entries.items; next_stamp = c.self.inside.next_stamp; cpus = length c.self.inside.queues.items } in
    let x = c.in-Some.entry in
    let y : Queued = record c.in-Some.entry { is_runnable = c.args.is_runnable } in
    let t : Schedule = record { entries = slice_set c.self.inside.entries.items c.args.sc (Some y); next_stamp = c.self.inside.next_stamp; cpus = length c.self.inside.queues.items } in
    let are = c.self.invariant.1.1 in
    let stamped = subst AreStamped (sym (marked_is s c.args.sc c.args.is_runnable x is)) (stamps_are_given_once.mark s c.args.sc c.args.is_runnable are.stamped) in
    let here = subst (λ (rs : List Runnable). IsReady x.cpu t.entries rs) (sym c.requeue.ensures.here)
    (ready_requeued s (items_at c.self.inside.readies.items x.cpu) c.args.sc x c.args.is_runnable are.stamped (are.ready x.cpu) is) in (
      queues_set c.self.inside.queues.items c.self.inside.entries.items c.args.sc c.in-Some.entry _ c.self.invariant.0 is refl,
      (
        c.self.invariant.1.0,
        ready_changed c.self.inside.queues.items c.self.inside.readies.items c.requeue.new.readies.items s t x.cpu are c.requeue.ensures.cpus c.requeue.ensures.others c.requeue.ensures.rooms here
            (λ other off rs ready. ready_elsewhere c.self.inside.entries.items rs c.args.sc other x y is refl off ready) stamped,
      ),
    )

pub returns-clause-marked : goal.returns-clause-marked
returns-clause-marked c =
    let there : IsSome (entry_in c.self.inside.entries.items c.args.sc) = search rules in
    let is : entry_in c.self.inside.entries.items c.args.sc ≡ Some c.in-Some.entry = entry_at c.self.inside.entries.items c.args.sc c.index_mut.result.now there c.index_mut.ensures.value ∙ c.in-Some.is in
    subst (λ (q : QueuesState). ◌≡◌ {A = Schedule} (record { entries = slice_set c.self.inside.entries.items c.args.sc (Some (record c.in-Some.entry { is_runnable = c.args.is_runnable })); next_stamp = c.self.inside.next_stamp; cpus = length c.self.inside.queues.items }) (marked q.all c.args.sc c.args.is_runnable)) c.self.view_is
    (marked_is (record { entries = c.self.inside.entries.items; next_stamp = c.self.inside.next_stamp; cpus = length c.self.inside.queues.items }) c.args.sc c.args.is_runnable c.in-Some.entry is)
