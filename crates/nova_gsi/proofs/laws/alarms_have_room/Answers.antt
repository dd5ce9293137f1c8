use Rattle.nova_gsi.proofs.Statuses.{status_0}
use Rattle.nova_gsi.proofs.laws.alarms_have_room.Goals as goal

pub returns : goal.returns
returns c = status_0
