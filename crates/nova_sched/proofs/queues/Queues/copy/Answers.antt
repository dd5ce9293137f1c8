use Rattle.std.proofs.Common.{rules, ◌≡◌, List, length, sym, subst}
use Rattle.std.specs.Prelude.{Option}
use Rattle.nova_sched.specs.Lists.{AreQueues, QueueState, unroomed}
use Rattle.nova_sched.specs.Ready.{AreReady, ReadyState}
use Rattle.nova_sched.specs.declared.queued.Queued.{Queued}
use Rattle.nova_sched.proofs.Readies.{ready_copied, ready_cpus}
use Rattle.nova_sched.proofs.Tables.{queues_unroomed}
use Rattle.nova_sched.proofs.queues.Queues.copy.Goals as goal

pub invariant_of-result : goal.invariant_of-result
invariant_of-result c =
    let os = c.self.inside.entries.items in
    let qs = c.self.inside.queues.items in
    let rs = c.self.inside.readies.items in
    let entries : c.in_ok-entries.entries.items ≡ os = search rules in
    let queues : c.in_ok-queues.queues.items ≡ unroomed qs = search rules in
    let readies : c.in_ok-readies.readies.items ≡ rs = search rules in
    let cpus = length c.in_ok-queues.queues.items in
    let next = c.self.inside.next_stamp in
    let ready = ready_cpus (unroomed qs) rs os next (length qs) cpus (ready_copied qs rs (record { entries = os; next_stamp = next; cpus = length qs }) c.self.invariant.1.1) in (
      subst (λ (es : List (Option Queued)). AreQueues c.in_ok-queues.queues.items es) (sym entries) (subst (λ (l : List QueueState). AreQueues l os) (sym queues) (queues_unroomed qs os c.self.invariant.0)),
      (
        search rules,
        subst (λ (es : List (Option Queued)). AreReady c.in_ok-queues.queues.items c.in_ok-readies.readies.items (record { entries = es; next_stamp = next; cpus = cpus })) (sym entries)
            (subst (λ (l : List QueueState). AreReady l c.in_ok-readies.readies.items (record { entries = os; next_stamp = next; cpus = cpus })) (sym queues)
            (subst (λ (l : List ReadyState). AreReady (unroomed qs) l (record { entries = os; next_stamp = next; cpus = cpus })) (sym readies) ready)),
      ),
    )
