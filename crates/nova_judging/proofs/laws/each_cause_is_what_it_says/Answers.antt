use Rattle.nova_judging.proofs.Causing.{caused}
use Rattle.nova_judging.proofs.laws.each_cause_is_what_it_says.Goals as goal

pub returns : goal.returns
returns c = caused
