use Rattle.nova_model.specs.Boot.{boot}
use Rattle.nova_model.specs.Runs.{run}
use Rattle.law_integrity.specs.Confined.{Of}
use Rattle.law_flow.specs.Flow.{fixed}
use Rattle.law_flow.proofs.Apart.{free, free_works_timed}
use Rattle.law_flow.proofs.Ends.{divided_ends}
use Rattle.law_flow.proofs.Pairs.{never}
use Rattle.law_flow.proofs.noninterference_on_divided_processors.Goals as goal

pub returns-clause-working : goal.returns-clause-working
returns-clause-working c = λ revokes a b before since turns others S T U P C first second divided also alike timed takes works same.
    divided_ends (fixed revokes) a b before since turns others S P C (Of T) (Of U) first second divided also alike (record { timed = timed; within = takes; alone = λ h. absurd (never h) }) (λ h. absurd (never h)) works same

pub returns-clause-creating : goal.returns-clause-creating
returns-clause-creating c = λ allowed a b before since turns others S T U P C first second divided also alike timed takes alone stays works same.
    divided_ends (free allowed.revokes) a b before since turns others S P C (Of T) (Of U) (record { part = first; alone = alone.first }) (record { part = second; alone = alone.second }) divided also alike
    (record { timed = timed; within = takes; alone = λ yes. alone }) (λ yes. stays) (free_works_timed allowed S (run (boot a) before) turns works) same
