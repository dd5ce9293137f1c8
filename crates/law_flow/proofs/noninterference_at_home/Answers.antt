use Rattle.std.proofs.Common.{refl}
use Rattle.nova_model.specs.Boot.{boot}
use Rattle.nova_model.specs.Runs.{run}
use Rattle.law_integrity.specs.Confined.{Of}
use Rattle.law_flow.specs.Flow.{fixed}
use Rattle.law_flow.proofs.Apart.{free, free_works_timed}
use Rattle.law_flow.proofs.Ends.{at_home_ends}
use Rattle.law_flow.proofs.Pairs.{never}
use Rattle.law_flow.proofs.noninterference_at_home.Goals as goal

pub returns-clause-working : goal.returns-clause-working
returns-clause-working c = λ revokes a b before since turns others S T U P C first second home abroad alike timed takes works same.
    at_home_ends (fixed revokes) S P C turns others (run (boot a) before) (run (boot b) since) (Of T) (Of U)
    (record { reached = record { scenario = a; before = before; is = refl; part = first }; home = home; nothing = λ h. absurd (never h) }) works
    (record { reached = record { scenario = b; before = since; is = refl; part = second }; home = abroad; nothing = λ h. absurd (never h) }) alike
    (record { timed = timed; within = takes; alone = λ h. absurd (never h) }) same

pub returns-clause-creating : goal.returns-clause-creating
returns-clause-creating c = λ allowed a b before since turns others S T U P C first second home abroad alike timed takes alone nothing none works same.
    at_home_ends (free allowed.revokes) S P C turns others (run (boot a) before) (run (boot b) since) (Of T) (Of U)
    (record { reached = record { scenario = a; before = before; is = refl; part = record { part = first; alone = alone.first } }; home = home; nothing = λ yes. nothing })
    (free_works_timed allowed S (run (boot a) before) turns works)
    (record { reached = record { scenario = b; before = since; is = refl; part = record { part = second; alone = alone.second } }; home = abroad; nothing = λ yes. none }) alike
    (record { timed = timed; within = takes; alone = λ yes. alone }) same
