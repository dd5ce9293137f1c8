use Rattle.std.proofs.Common.{rules, ◌≡◌, ◌≤◌, ◌∙◌, ℕ, List, length, ap, ap₂, sym, subst}
use Rattle.std.proofs.lemmas.List.Sorted.{IsPartitionPoint-from_clause}
use Rattle.nova_model.specs.Forest.{ArePairs}
use Rattle.nova_sched.specs.Queues.{runs_before}
use Rattle.nova_sched.specs.Ready.{IsBehind, ReadyState, placed}
use Rattle.nova_sched.specs.declared.queued.Runnable.{Runnable}
use Rattle.nova_sched.proofs.Placing.{inserted, parted}
use Rattle.nova_sched.proofs.ready.Ready.insert.Goals as goal

pub returns : goal.returns
returns c =
    let items = c.self.inside.items.items in
    let seen : c.args.self.now.items ≡ items = search rules in
    let order = subst (ArePairs IsBehind) seen c.requires.order in
    let point = IsPartitionPoint-from_clause (λ (q : Runnable). runs_before q c.args.r) items c.partition_point-at.result c.partition_point-at.ensures.partitioned (parted c.args.r items order) (λ a r q k. search rules) in
    let bound : c.partition_point-at.result ≤ length items = search rules in
    let is : c.insert.new.self.items ≡ placed c.args.r c.args.self.now.items =
    c.in-Ok.ensures.items ∙ inserted c.args.r items c.partition_point-at.result bound point ∙ ap (placed c.args.r) (sym seen) in
    let room : c.self.inside.room ≡ c.args.self.now.room = search rules in
    let made : List Runnable → ℕ → ReadyState = λ rs n. record { items = rs; room = n } in
    ap₂ made is room
