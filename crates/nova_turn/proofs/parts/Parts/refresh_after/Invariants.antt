use Rattle.std.proofs.Common.{◌≡◌}
use Rattle.nova_choice.specs.Schedules.{AreQueuedBy}
use Rattle.nova_turn.specs.Parts.{state_of}
use Rattle.nova_turn.proofs.parts.Parts.refresh_after.Given as goal

-- marks that may be old are those of all that come to the next
abbrev pub invariant-loop : goal.invariant-loop
invariant-loop l = record {
  queued : AreQueuedBy l.fn.moved l.at (state_of l.self) l.self.queues.all;
  shown : state_of l.self ≡ state_of l.fn.self;
  revokes : l.self.revokes ≡ l.fn.self.revokes;
  log : l.self.reach.room ≡ l.fn.self.reach.room;
}
