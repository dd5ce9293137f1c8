use Rattle.law_revocation.proofs.Kept.{boot_sound, reachable_sound, turn_sound}
use Rattle.law_revocation.proofs.what_revokes_stand_on_is_kept.Goals as goal

pub returns-clause-begins : goal.returns-clause-begins
returns-clause-begins c = boot_sound

pub returns-clause-turns : goal.returns-clause-turns
returns-clause-turns c = turn_sound

pub returns-clause-reached : goal.returns-clause-reached
returns-clause-reached c = reachable_sound
