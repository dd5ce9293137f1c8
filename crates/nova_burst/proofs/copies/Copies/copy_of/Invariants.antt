use Rattle.std.proofs.Common.{◌≡◌, drop}
use Rattle.law_leases.specs.Leases.{copy_at}
use Rattle.nova_burst.proofs.copies.Copies.copy_of.Given as goal

abbrev pub invariant-loop-i : goal.invariant-loop-i
invariant-loop-i l = copy_at (drop l.i l.self.pages) l.frame ≡ copy_at l.self.pages l.frame
