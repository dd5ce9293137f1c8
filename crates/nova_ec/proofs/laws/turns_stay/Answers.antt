use Rattle.nova_ec.proofs.Donors.{same_state_keeps_chases}
use Rattle.nova_ec.proofs.laws.turns_stay.Goals as goal

-- src/laws.rt:31:1
pub returns-clause-state : goal.returns-clause-state
returns-clause-state c = same_state_keeps_chases
