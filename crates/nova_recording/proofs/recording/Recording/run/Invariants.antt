use Rattle.std.proofs.Common.{◌+◌, ◌-◌, ◌≤◌, length}
use Rattle.nova_recording.specs.Recordings.{IsBounded, IsSameRun}
use Rattle.nova_recording.specs.Wants.{NoneWanted}
use Rattle.nova_recording.proofs.recording.Recording.run.Given as goal

abbrev pub invariant-loop-self : goal.invariant-loop-self
invariant-loop-self l = record {
  same : IsSameRun l.fn.self l.self;
  bound : IsBounded l.fn.self l.self;
  from : l.fn.self.turn ≤ l.self.turn;
  ahead : l.self.turn ≤ l.to;
  within : l.to ≤ length l.self.events;
  room : l.to ≤ l.self.room + l.self.turn;
  before : NoneWanted l.fn.self.opening l.fn.self.events l.search l.fn.self.turn l.self.turn;
}

abbrev pub decreases-loop-self : goal.decreases-loop-self
decreases-loop-self l = l.to - l.self.turn
