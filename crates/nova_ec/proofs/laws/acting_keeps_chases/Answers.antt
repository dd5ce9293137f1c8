use Rattle.nova_ec.proofs.Acting.{acting_keeps_chases, deeds_keep_chases}
use Rattle.nova_ec.proofs.laws.acting_keeps_chases.Goals as goal

pub returns-clause-acting : goal.returns-clause-acting
returns-clause-acting c = acting_keeps_chases

pub returns-clause-deeds : goal.returns-clause-deeds
returns-clause-deeds c = deeds_keep_chases
