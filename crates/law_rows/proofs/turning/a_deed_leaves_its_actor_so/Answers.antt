use Rattle.law_rows.proofs.Joining.{made, opened}
use Rattle.law_rows.proofs.turning.a_deed_leaves_its_actor_so.Goals as goal

pub returns-clause-made : goal.returns-clause-made
returns-clause-made c = made

pub returns-clause-opens : goal.returns-clause-opens
returns-clause-opens c = opened
