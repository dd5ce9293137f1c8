use Rattle.law_turns.proofs.Donation.{blocked_waits, sound_semaphores}
use Rattle.law_turns.proofs.semaphores.the_blocked_wait_at_their_semaphores.Goals as goal

pub returns-clause-blocked : goal.returns-clause-blocked
returns-clause-blocked c = blocked_waits

pub returns-clause-sound : goal.returns-clause-sound
returns-clause-sound c = sound_semaphores
