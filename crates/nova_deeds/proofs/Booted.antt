-- What holds of the state in which a machine boots.
use Rattle.std.proofs.Common.{ℕ, zero, suc, ◌≤◌, refl, arith}
use Rattle.std.specs.Prelude.{slice_get, slice_index, replicate}
use Rattle.std.proofs.lemmas.List.{length-replicate}
use Rattle.nova_model.specs.State.{budget_at, entry, transfer_at}
use Rattle.nova_model.specs.Boot.{bare}
use Rattle.nova_model.specs.declared.root.Root.{Root}
use Rattle.law_turns.specs.Keeping.{IsKept}
use Rattle.nova_deeds.specs.Counted.{IsAtItem, IsCounted, IsGivenWithin, IsPaidWithin}
use Rattle.nova_deeds.specs.Stirs.{IsStirredWithin}
use Rattle.law_forest.proofs.Boots.{bare_forest}

zeros : (n i : ℕ) → slice_index (replicate n 0) i ≤ 0
zeros zero i = omega arith
zeros (suc n) zero = omega arith
zeros (suc n) (suc i) = zeros n i

ticks-bare : (cpus ram consoles : ℕ) (root : Root) (sc : ℕ) → IsPaidWithin 0 (budget_at (bare cpus ram consoles root) sc)
ticks-bare cpus ram consoles root zero = omega arith
ticks-bare cpus ram consoles root (suc zero) = omega arith
ticks-bare cpus ram consoles root (suc (suc zero)) = omega arith
ticks-bare cpus ram consoles root (suc (suc (suc n))) = omega arith

guests-bare : (cpus ram consoles : ℕ) (root : Root) (g : ℕ) → IsStirredWithin 0 (entry (slice_get (bare cpus ram consoles root).stirs.guests g))
guests-bare cpus ram consoles root zero = omega arith
guests-bare cpus ram consoles root (suc zero) = omega arith
guests-bare cpus ram consoles root (suc (suc zero)) = omega arith
guests-bare cpus ram consoles root (suc (suc (suc n))) = omega arith

children-bare : (cpus ram consoles : ℕ) (root : Root) (ec : ℕ) → IsGivenWithin 0 (transfer_at (bare cpus ram consoles root) ec)
children-bare cpus ram consoles root zero = omega arith
children-bare cpus ram consoles root (suc zero) = omega arith
children-bare cpus ram consoles root (suc (suc zero)) = omega arith
children-bare cpus ram consoles root (suc (suc (suc n))) = omega arith

items-bare : (cpus ram consoles : ℕ) (root : Root) (ec : ℕ) → IsAtItem (transfer_at (bare cpus ram consoles root) ec)
items-bare cpus ram consoles root zero = tt
items-bare cpus ram consoles root (suc zero) = omega arith
items-bare cpus ram consoles root (suc (suc zero)) = tt
items-bare cpus ram consoles root (suc (suc (suc n))) = tt

pub IsCounted_bare : (cpus ram consoles : ℕ) (root : Root) → consoles ≤ 16 → IsKept (bare cpus ram consoles root) → IsCounted (bare cpus ram consoles root)
IsCounted_bare cpus ram consoles root few kept = record {
  charged = record {
    turns = omega arith;
    processors = length-replicate cpus 0;
    stamps = omega arith;
    ticks = ticks-bare cpus ram consoles root;
    stirs = zeros cpus;
    guests = guests-bare cpus ram consoles root;
  };
  numbered = record { objects = omega arith; derivations = omega arith };
  tables = record { contexts = refl; messages = refl; transfers = refl; budgets = refl; identifiers = refl; semaphores = refl; guests = refl; deadlines = refl };
  children = children-bare cpus ram consoles root;
  items = items-bare cpus ram consoles root;
  forest = bare_forest cpus ram consoles root;
  kept = kept;
}
