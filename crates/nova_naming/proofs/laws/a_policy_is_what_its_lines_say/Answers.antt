use Rattle.nova_naming.proofs.Made.{lines_make, makes}
use Rattle.nova_naming.proofs.laws.a_policy_is_what_its_lines_say.Goals as goal

pub returns-clause-lines : goal.returns-clause-lines
returns-clause-lines c = lines_make

pub returns-clause-policy : goal.returns-clause-policy
returns-clause-policy c = makes
