use Rattle.std.proofs.Common.{◌≡◌, ◌==◌, drop}
use Rattle.std.specs.List.{find}
use Rattle.nova_burst.proofs.copies.Copies.place.Given as goal

abbrev pub invariant-loop-known : goal.invariant-loop-known
invariant-loop-known l = find (λ k. k.page == l.page) (drop l.known-index l.self.known) ≡ find (λ k. k.page == l.page) l.self.known
