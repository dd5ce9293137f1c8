use Rattle.nova_sched.proofs.Chosen.{chosen_is_foremost}
use Rattle.nova_sched.proofs.laws.none_runs_before_the_chosen.Goals as goal

pub returns : goal.returns
returns c = chosen_is_foremost
