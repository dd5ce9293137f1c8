use Rattle.std.proofs.Common.{refl}
use Rattle.nova_flowing.proofs.Alike.{alike_itself, timed_itself}
use Rattle.nova_model.specs.Boot.{boot}
use Rattle.nova_model.specs.Runs.{run}
use Rattle.law_integrity.specs.Confined.{Of}
use Rattle.law_integrity.proofs.Homes.{reached_homed}
use Rattle.law_isolation.proofs.Runs.{reached_sound}
use Rattle.law_flow.proofs.Deriving.{revoking_itself}
use Rattle.nova_flowing.specs.Working.{widened}
use Rattle.nova_flowing.proofs.Widened.{rung_there, widened_alone, widened_derives, widened_divided, widened_partitioned}
use Rattle.nova_flowing.proofs.laws.what_is_own_depends_on_its_own_processors_alone.Goals as goal

pub returns-clause-working : goal.returns-clause-working
returns-clause-working c = λ revokes scenario before turns others S T P C partitioned divided within works same.
    c.noninterference_on_divided_processors.ensures.working revokes scenario scenario before before turns others S T T P C partitioned partitioned divided divided
    (alike_itself (run (boot scenario) before) (Of S) (Of P)) (timed_itself (run (boot scenario) before) (Of P) (Of C))
    (λ yes. revoking_itself (run (boot scenario) before) (Of S) (reached_sound scenario before) (within yes)) works same

pub returns-clause-creating : goal.returns-clause-creating
returns-clause-creating c = λ allowed scenario before turns others S T P C partitioned divided within stays works same.
    let k = run (boot scenario) before in
    let sound = reached_sound scenario before in
    let homed = reached_homed scenario before in
    let apart = widened_partitioned k sound homed S T P C partitioned in
    let alone = widened_alone k sound homed S T P C partitioned divided (rung_there scenario before) in
    let home = widened_divided k sound homed S T P C partitioned divided (rung_there scenario before) in
    c.noninterference_on_divided_processors.ensures.creating allowed scenario scenario before before turns others (widened k S) T T (widened k P) C apart apart home home
    (alike_itself k (Of (widened k S)) (Of (widened k P))) (timed_itself k (Of (widened k P)) (Of C))
    (λ yes. revoking_itself k (Of (widened k S)) sound (widened_derives k sound homed S T P C partitioned (within yes)))
    (record { first = alone; second = alone; objects = refl; cpus = refl }) stays works same
