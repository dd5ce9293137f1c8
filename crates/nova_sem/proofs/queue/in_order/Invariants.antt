use Rattle.std.proofs.Common.{◌≡◌, ◌<◌, ◌-◌, ◌++◌, ℕ, length}
use Rattle.std.specs.Prelude.{true}
use Rattle.nova_model.specs.Semaphores.{has}
use Rattle.nova_sem.specs.Links.{linked}
use Rattle.nova_sem.proofs.queue.in_order.Given as goal

abbrev pub invariant-loop-told : goal.invariant-loop-told
invariant-loop-told l = record {
  same : l.queue.items ++ linked l.links l.at (l.waiting - l._told) ≡ linked l.links l.first l.waiting;
  within : (x : ℕ) → has (linked l.links l.at (l.waiting - l._told)) x ≡ true → x < length l.links;
}
