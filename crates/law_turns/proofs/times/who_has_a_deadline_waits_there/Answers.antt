use Rattle.law_turns.proofs.Donation.{late_queued, late_waits}
use Rattle.law_turns.proofs.times.who_has_a_deadline_waits_there.Goals as goal

pub returns-clause-blocked : goal.returns-clause-blocked
returns-clause-blocked c = late_waits

pub returns-clause-queued : goal.returns-clause-queued
returns-clause-queued c = late_queued
