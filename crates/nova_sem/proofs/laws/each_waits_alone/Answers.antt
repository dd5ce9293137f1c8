use Rattle.nova_sem.proofs.Sound.{each_waits_alone}
use Rattle.nova_sem.proofs.laws.each_waits_alone.Goals as goal

pub returns : goal.returns
returns c = each_waits_alone
