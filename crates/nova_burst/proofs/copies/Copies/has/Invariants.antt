use Rattle.std.proofs.Common.{◌≡◌, drop}
use Rattle.law_leases.specs.Leases.{copy_at}
use Rattle.nova_burst.proofs.copies.Copies.has.Given as goal

abbrev pub invariant-loop-page : goal.invariant-loop-page
invariant-loop-page l = copy_at (drop l.page-index l.self.pages) l.frame ≡ copy_at l.self.pages l.frame
