use Rattle.std.proofs.Common.{◌≡◌, ◌+◌, drop}
use Rattle.nova_revoke.specs.Runners.{place_of}
use Rattle.nova_revoke.proofs.running.Revokes.place_of.Given as goal

-- all before are of lesser numbers
abbrev pub invariant-loop-i : goal.invariant-loop-i
invariant-loop-i l = l.i + place_of l.ec (drop l.i l.self.list) ≡ place_of l.ec l.self.list
