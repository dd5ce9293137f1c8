use Rattle.law_integrity.specs.Confined.{Of}
use Rattle.law_integrity.proofs.Confined.{turn_blind, turns_blind}
use Rattle.law_integrity.proofs.Confining.{any_reached}
use Rattle.law_integrity.proofs.confinement.closed_sets_are_blind_to_the_rest.Goals as goal

pub returns-clause-turn : goal.returns-clause-turn
returns-clause-turn c k turns S T cpu ec frame bytes at =
    rw at.is (λ apart acts_ m none. turn_blind at.scenario at.before turns (Of S) (Of T) cpu ec frame bytes apart acts_ m (λ right r. none (any_reached r)))

pub returns-clause-turns : goal.returns-clause-turns
returns-clause-turns c k turns S T frame bytes at =
    rw at.is (λ apart only none. turns_blind at.scenario at.before turns (Of S) (Of T) frame bytes apart only (λ right r. none (any_reached r)))
