use Rattle.nova_model.specs.Boot.{boot}
use Rattle.law_leases.proofs.Committed.{boot_reached, run_reached, turn_reached}
use Rattle.law_leases.proofs.Laid.{laid_reached}
use Rattle.law_leases.proofs.laws.what_bursts_stand_on_is_kept.Goals as goal

pub returns-clause-begins : goal.returns-clause-begins
returns-clause-begins c = boot_reached

pub returns-clause-memory : goal.returns-clause-memory
returns-clause-memory c = laid_reached

pub returns-clause-turns : goal.returns-clause-turns
returns-clause-turns c = turn_reached

pub returns-clause-reached : goal.returns-clause-reached
returns-clause-reached c = λ scenario turns. run_reached (boot scenario) turns (boot_reached scenario)
