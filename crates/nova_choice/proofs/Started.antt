-- The queues of a machine that boots are as its state wants them.
use Rattle.std.proofs.Common.{◌≡◌, ℕ, zero, suc, ◌<◌, refl, arith}
use Rattle.std.specs.Prelude.{[], ◌∷◌, Some, None, max, slice_get}
use Rattle.nova_model.specs.Boot.{bare}
use Rattle.nova_model.specs.declared.root.Root.{Root}
use Rattle.nova_sched.specs.Queues.{queued_at}
use Rattle.nova_choice.specs.Schedules.{AreQueued, IsAtHome, IsOwned, budgets_of, root_schedule, wanted}

entries_bare : (cpus ram consoles : ℕ) (root : Root) (sc : ℕ) → queued_at (root_schedule cpus root) sc ≡ wanted (bare cpus ram consoles root) sc
unfolding root_schedule
entries_bare cpus ram consoles root zero = refl
entries_bare cpus ram consoles root (suc zero) = refl
entries_bare cpus ram consoles root (suc (suc zero)) = refl
entries_bare cpus ram consoles root (suc (suc (suc n))) = refl

some_cpu : (cpus : ℕ) → 0 < max cpus 1
some_cpu cpus = omega arith

homes_bare : (cpus ram consoles : ℕ) (root : Root) (n : ℕ) →
    IsAtHome (root_schedule cpus root).cpus (bare cpus ram consoles root).contexts n (slice_get (bare cpus ram consoles root).objects n)
unfolding root_schedule
homes_bare cpus ram consoles root zero = tt
homes_bare cpus ram consoles root (suc zero) = (some_cpu cpus, refl)
homes_bare cpus ram consoles root (suc (suc zero)) = (some_cpu cpus, refl)
homes_bare cpus ram consoles root (suc (suc (suc n))) = tt

owners_bare : (cpus ram consoles : ℕ) (root : Root) (n : ℕ) → IsOwned (bare cpus ram consoles root).objects (slice_get (bare cpus ram consoles root).objects n)
owners_bare cpus ram consoles root zero = tt
owners_bare cpus ram consoles root (suc zero) = tt
owners_bare cpus ram consoles root (suc (suc zero)) = refl
owners_bare cpus ram consoles root (suc (suc (suc n))) = tt

pub queued_bare : (cpus ram consoles : ℕ) (root : Root) → AreQueued (bare cpus ram consoles root) (root_schedule cpus root)
unfolding root_schedule
queued_bare cpus ram consoles root = record {
  cpus = omega arith;
  numbers = omega arith;
  stamp = refl;
  entries = entries_bare cpus ram consoles root;
  homes = homes_bare cpus ram consoles root;
  owners = owners_bare cpus ram consoles root;
}

pub budgets_bare : (cpus : ℕ) (root : Root) → budgets_of (root_schedule cpus root) 3 ≡ None ∷ None ∷ Some (record { left = root.quantum; stamp = 0; ticks = 0 }) ∷ []
unfolding budgets_of root_schedule
budgets_bare cpus root = refl

pub stamp_bare : (cpus : ℕ) (root : Root) → (root_schedule cpus root).next_stamp ≡ 1
unfolding root_schedule
stamp_bare cpus root = refl

pub ruleset started = (budgets_bare, stamp_bare)
