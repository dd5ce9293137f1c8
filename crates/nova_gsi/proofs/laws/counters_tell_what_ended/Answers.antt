use Rattle.nova_gsi.proofs.Counters.{counts_on}
use Rattle.nova_gsi.proofs.Leaving.{leaves}
use Rattle.nova_gsi.proofs.Statuses.{boot_idle, born, made_on}
use Rattle.nova_gsi.proofs.laws.counters_tell_what_ended.Goals as goal

pub returns-clause-counts : goal.returns-clause-counts
returns-clause-counts c = counts_on

pub returns-clause-leaves : goal.returns-clause-leaves
returns-clause-leaves c = leaves

pub returns-clause-sources : goal.returns-clause-sources
returns-clause-sources c = boot_idle

pub returns-clause-born : goal.returns-clause-born
returns-clause-born c = born

pub returns-clause-made : goal.returns-clause-made
returns-clause-made c = made_on
