use Rattle.nova_flowing.proofs.Working.{work_ends}
use Rattle.nova_flowing.proofs.laws.sides_may_revoke_what_they_keep.Goals as goal

pub returns : goal.returns
returns c = work_ends
