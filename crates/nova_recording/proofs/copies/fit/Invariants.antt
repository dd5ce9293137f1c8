use Rattle.std.proofs.Common.{vec_len}
use Rattle.nova_recording.specs.Copies.{AreAmong}
use Rattle.nova_recording.proofs.copies.fit.Given as goal

abbrev pub invariant-loop-kept : goal.invariant-loop-kept
invariant-loop-kept l = AreAmong l.kept.items l.initial.kept.items

abbrev pub decreases-loop-kept : goal.decreases-loop-kept
decreases-loop-kept l = vec_len l.kept
