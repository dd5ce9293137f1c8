use Rattle.law_turns.proofs.Blocking.{first_woken}
use Rattle.law_turns.proofs.semaphores.the_first_is_woken.Goals as goal

pub returns : goal.returns
returns c = first_woken
