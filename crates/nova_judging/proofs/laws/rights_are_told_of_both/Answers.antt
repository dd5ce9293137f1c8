use Rattle.nova_judging.proofs.MemoryRights.{flow_rights, read_rights}
use Rattle.nova_judging.proofs.laws.rights_are_told_of_both.Goals as goal

pub returns-clause-flowing : goal.returns-clause-flowing
returns-clause-flowing c = flow_rights

pub returns-clause-reading : goal.returns-clause-reading
returns-clause-reading c = read_rights
