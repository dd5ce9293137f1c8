use Rattle.std.proofs.Common.{◌≡◌, ◌+◌, drop}
use Rattle.nova_revoke.specs.Runners.{index_of}
use Rattle.nova_revoke.proofs.running.Revokes.index_of.Given as goal

-- none before is of this number
abbrev pub invariant-loop-i : goal.invariant-loop-i
invariant-loop-i l = l.i + index_of l.ec (drop l.i l.self.list) ≡ index_of l.ec l.self.list
