use Rattle.std.proofs.Common.{rules, ◌≡◌, List, [], length, sym, subst}
use Rattle.std.specs.Prelude.{replicate, Option}
use Rattle.nova_sched.specs.Lists.{AreQueues, QueueState}
use Rattle.nova_sched.specs.Ready.{AreReady, ReadyState}
use Rattle.nova_sched.specs.declared.queued.Queued.{Queued}
use Rattle.nova_sched.proofs.Readies.{no_queue, no_ready, ready_none}
use Rattle.nova_sched.proofs.Tables.{queues_none}
use Rattle.nova_sched.proofs.queues.Queues.new.Goals as goal

pub invariant_of-result : goal.invariant_of-result
invariant_of-result c =
    let n = c.args.cpus in
    let entries : c.new.result.items ≡ [] = search rules in
    let queues : c.in_ok-empty_queues.field-0.items ≡ replicate n no_queue = search rules in
    let readies : c.in_ok-nobody.field-0.items ≡ replicate n no_ready = search rules in
    let cpus = length c.in_ok-empty_queues.field-0.items in (
      subst (λ (os : List (Option Queued)). AreQueues c.in_ok-empty_queues.field-0.items os) (sym entries) (subst (λ (qs : List QueueState). AreQueues qs []) (sym queues) (queues_none n)),
      (
        search rules,
        subst (λ (os : List (Option Queued)). AreReady c.in_ok-empty_queues.field-0.items c.in_ok-nobody.field-0.items (record { entries = os; next_stamp = 0; cpus = cpus })) (sym entries)
            (subst (λ (qs : List QueueState). AreReady qs c.in_ok-nobody.field-0.items (record { entries = []; next_stamp = 0; cpus = cpus })) (sym queues)
            (subst (λ (rs : List ReadyState). AreReady (replicate n no_queue) rs (record { entries = []; next_stamp = 0; cpus = cpus })) (sym readies) (ready_none n cpus))),
      ),
    )
