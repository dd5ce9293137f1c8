use Rattle.std.proofs.Common.{ℕ, ◌≡◌, ◌+◌, ◌^◌, Some}
use Rattle.law_leases.specs.Leases.{lease_steps}
use Rattle.nova_burst.specs.Copies.{HasFewStores, known_in, lease_of}
use Rattle.nova_burst.proofs.run.Burst.run.Given as goal

-- the steps so far
abbrev pub invariant-loop-i : goal.invariant-loop-i
invariant-loop-i l = record {
  ran : lease_steps (known_in l.fn.self.copies.known) l.i (lease_of l.fn.self.regs l.fn.self.copies) ≡ Some (lease_of l.regs l.self.copies);
  known : l.self.copies.known ≡ l.fn.self.copies.known;
  few : HasFewStores (2 ^ 32 + l.i) l.self.copies;
  stores : (n : ℕ) → HasFewStores n l.fn.self.copies → HasFewStores (n + l.i) l.self.copies;
}
