use Rattle.std.proofs.Common.{refl}
use Rattle.law_integrity.specs.Confined.{Of}
use Rattle.law_flow.specs.Flow.{AreCreatingAlone, AreGivingWithin, AreRevokingWithin, DerivesWithin, HasSameClock, IsCreatingAlone, IsGivingWithin}
use Rattle.law_flow.proofs.Leaves.{derived_itself}
use Rattle.law_flow.proofs.Turns.{alike_itself, decided, own_alike, own_derived, own_numbers, own_side, work_as}
use Rattle.law_flow.proofs.step_consistency.Goals as goal

pub returns-clause-decides : goal.returns-clause-decides
returns-clause-decides c k l S P cpu ec sc first second side alike own works =
    decided k l S P cpu ec sc (record { side = side; alike = alike; first = first; second = second }) own works

pub returns-clause-turn : goal.returns-clause-turn
returns-clause-turn c k l S P cpu other ec sc first second side alike own also works =
    own_alike k l S P cpu other ec sc (record { side = side; alike = alike; first = first; second = second }) own also works

pub returns-clause-lines : goal.returns-clause-lines
returns-clause-lines c k l S P cpu other ec sc first second side alike own also works derived =
    own_derived k l S P cpu other ec sc (record { side = side; alike = alike; first = first; second = second }) own also works derived

pub returns-clause-numbers : goal.returns-clause-numbers
returns-clause-numbers c k l S P cpu other ec sc first second side alike own also works alone =
    own_numbers k l S P cpu other ec sc (record { side = side; alike = alike; first = first; second = second }) own also works alone

pub returns-clause-side : goal.returns-clause-side
returns-clause-side c k S P cpu ec sc sound side own works =
    own_side k k S P cpu ec sc (record { side = side; alike = alike_itself k S P; first = sound; second = sound }) own
    (work_as (HasSameClock k k ec) (HasSameClock k k ec) (IsGivingWithin k (Of S) ec) (AreGivingWithin k k (Of S) ec) (DerivesWithin k (Of S)) (AreRevokingWithin k k (Of S)) (IsCreatingAlone k (Of S) (Of P))
    (AreCreatingAlone k k (Of S) (Of P)) k ec (λ same. same) (λ is within. record { first = within; second = within })
    (λ within. record { alike = derived_itself k (Of S) sound.forest; first = within; second = within }) (λ alone. record { first = alone; second = alone; objects = refl; cpus = refl }) works)
