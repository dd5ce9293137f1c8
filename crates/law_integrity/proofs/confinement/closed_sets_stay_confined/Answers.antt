use Rattle.law_integrity.specs.Confined.{Of}
use Rattle.law_integrity.proofs.Beginning.{boot_separate}
use Rattle.law_integrity.proofs.Confined.{acts_along, holds_along, reach_along, separate_along, tests_together}
use Rattle.law_integrity.proofs.Leaving.{flipped, leaves_along}
use Rattle.law_integrity.proofs.confinement.closed_sets_stay_confined.Goals as goal

pub returns-clause-separate : goal.returns-clause-separate
returns-clause-separate c k turns S T at = rw at.is (separate_along at.scenario at.before turns (Of S) (Of T))

pub returns-clause-acts : goal.returns-clause-acts
returns-clause-acts c k turns S T cpu ec at = rw at.is (acts_along at.scenario at.before turns (Of S) (Of T) cpu ec)

pub returns-clause-reach : goal.returns-clause-reach
returns-clause-reach c k turns S T right frame at = rw at.is (reach_along at.scenario at.before turns (Of S) (Of T) right frame)

pub returns-clause-holds : goal.returns-clause-holds
returns-clause-holds c k turns S T right object at = rw at.is (holds_along at.scenario at.before turns (Of S) (Of T) right object)

pub returns-clause-leaves : goal.returns-clause-leaves
returns-clause-leaves c k turns S T cpu ec at = rw at.is (leaves_along at.scenario at.before turns (Of S) (Of T) cpu ec)

pub returns-clause-flipped : goal.returns-clause-flipped
returns-clause-flipped c k S T = flipped k (Of S) (Of T)

pub returns-clause-boot : goal.returns-clause-boot
returns-clause-boot c = boot_separate

pub returns-clause-together : goal.returns-clause-together
returns-clause-together c = tests_together
