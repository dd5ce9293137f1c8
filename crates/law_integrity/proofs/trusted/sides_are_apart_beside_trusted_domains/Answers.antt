use Rattle.law_integrity.proofs.Confining.{any_reached}
use Rattle.law_integrity.proofs.Sides.{side_blind, side_holds, side_leaves, side_reaches, side_stays, within_along}
use Rattle.law_integrity.proofs.trusted.sides_are_apart_beside_trusted_domains.Goals as goal

pub returns-clause-within : goal.returns-clause-within
returns-clause-within c shared k turns label at = rw at.is (within_along at.scenario at.before turns label)

pub returns-clause-leaves : goal.returns-clause-leaves
returns-clause-leaves c shared k label cpu ec side at = rw at.is (side_leaves at.scenario at.before label cpu ec side)

pub returns-clause-stays : goal.returns-clause-stays
returns-clause-stays c shared k label cpu ec side n at = rw at.is (side_stays at.scenario at.before label cpu ec side n)

pub returns-clause-reach : goal.returns-clause-reach
returns-clause-reach c shared k turns label side right frame at = rw at.is (side_reaches at.scenario at.before turns label side right frame)

pub returns-clause-blind : goal.returns-clause-blind
returns-clause-blind c k label cpu ec frame bytes at = rw at.is (λ acts_ none. side_blind at.scenario at.before label cpu ec frame bytes acts_ (λ right r. none (any_reached r)))

pub returns-clause-holds : goal.returns-clause-holds
returns-clause-holds c shared k turns label side right object at = rw at.is (side_holds at.scenario at.before turns label side right object)
