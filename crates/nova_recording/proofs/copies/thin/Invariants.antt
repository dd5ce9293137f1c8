use Rattle.std.proofs.Common.{vec_len, ◌≡◌}
use Rattle.nova_recording.specs.Copies.{AreAmong}
use Rattle.nova_recording.proofs.copies.thin.Given as goal

abbrev pub invariant-loop-i : goal.invariant-loop-i
invariant-loop-i l = record {
  among : AreAmong l.kept.items l.initial.kept.items;
  length : vec_len l.kept ≡ vec_len l.initial.kept;
}
