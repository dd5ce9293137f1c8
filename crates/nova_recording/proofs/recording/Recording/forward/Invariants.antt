use Rattle.std.proofs.Common.{◌+◌, ◌-◌, ◌≤◌, length}
use Rattle.nova_recording.specs.Recordings.{IsBounded, IsSameRun}
use Rattle.nova_recording.proofs.recording.Recording.forward.Given as goal

abbrev pub invariant-loop-self : goal.invariant-loop-self
invariant-loop-self l = record {
  same : IsSameRun l.fn.self l.self;
  bound : IsBounded l.fn.self l.self;
  ahead : l.self.turn ≤ l.to;
  within : l.to ≤ length l.self.events;
  room : l.to ≤ l.self.room + l.self.turn;
}

abbrev pub decreases-loop-self : goal.decreases-loop-self
decreases-loop-self l = l.to - l.self.turn
