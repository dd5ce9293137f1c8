use Rattle.std.proofs.Common.{◌-◌, ◌^◌, ◌≤◌}
use Rattle.nova_revoke.proofs.Entries.{NoneBefore}
use Rattle.nova_revoke.proofs.leaves.scope_entry.Given as goal

abbrev pub invariant-loop-d : goal.invariant-loop-d
invariant-loop-d g l = record {
  before : NoneBefore l.revoke l.nodes.delegations l.place;
  place : l.place ≤ 2 ^ 20;
}

abbrev pub decreases-loop-d : goal.decreases-loop-d
decreases-loop-d g l = 2 ^ 20 - l.place
