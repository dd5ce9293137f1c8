use Rattle.law_waking.proofs.Kept.{some_thread_is_awake, whoever_is_served}
use Rattle.law_waking.proofs.no_wake_up_is_lost.Goals as goal

pub returns-clause-owed : goal.returns-clause-owed
returns-clause-owed c = whoever_is_served

pub returns-clause-awake : goal.returns-clause-awake
returns-clause-awake c = some_thread_is_awake
