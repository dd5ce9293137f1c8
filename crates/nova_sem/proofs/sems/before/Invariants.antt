use Rattle.std.proofs.Common.{◌≡◌, ◌<◌, ◌-◌, ℕ, suc, length}
use Rattle.std.specs.Prelude.{true}
use Rattle.nova_model.specs.Semaphores.{has}
use Rattle.nova_sem.specs.Links.{before, linked}
use Rattle.nova_sem.proofs.sems.before.Given as goal

abbrev pub invariant-loop : goal.invariant-loop
invariant-loop l = record {
  same : before l.links l.at l.ec (l.waiting - l.counter) ≡ before l.links l.first l.ec (l.waiting - 1);
  within : (x : ℕ) → has (linked l.links l.at (suc (l.waiting - l.counter))) x ≡ true → x < length l.links;
}
