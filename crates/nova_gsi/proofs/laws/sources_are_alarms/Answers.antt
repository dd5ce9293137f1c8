use Rattle.nova_gsi.proofs.Boots.{boot_alarms}
use Rattle.nova_gsi.proofs.laws.sources_are_alarms.Goals as goal

pub returns : goal.returns
returns c = boot_alarms
