use Rattle.law_isolation.proofs.Runs.{boot_sound, reached_sound, turn_sound, turn_virtual}
use Rattle.law_isolation.proofs.what_isolation_stands_on_is_kept.Goals as goal

pub returns-clause-begins : goal.returns-clause-begins
returns-clause-begins c = boot_sound

pub returns-clause-turns : goal.returns-clause-turns
returns-clause-turns c = turn_sound

pub returns-clause-stays : goal.returns-clause-stays
returns-clause-stays c = turn_virtual

pub returns-clause-reached : goal.returns-clause-reached
returns-clause-reached c = reached_sound
