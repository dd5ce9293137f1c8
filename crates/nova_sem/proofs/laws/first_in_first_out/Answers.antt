use Rattle.nova_sem.proofs.Queued.{first_in_first_out}
use Rattle.nova_sem.proofs.laws.first_in_first_out.Goals as goal

pub returns : goal.returns
returns c = first_in_first_out
