use Rattle.std.specs.Prelude.{ℕ}
use Rattle.nova_model.specs.Boot.{boot}
use Rattle.nova_model.specs.Runs.{run}
use Rattle.nova_model.specs.State.{KernelState, pd_of}
use Rattle.law_integrity.specs.Confined.{Pair}
use Rattle.law_integrity.proofs.Apart.{apart_along, apart_flipped, contexts_stay}
use Rattle.law_integrity.proofs.Confined.{acts_along, reach_along, set_stores, turn_blind}
use Rattle.law_integrity.proofs.Confining.{any_reached}
use Rattle.law_integrity.proofs.Leaving.{flipped, leaves_along}
use Rattle.law_integrity.proofs.confinement.guests_that_share_nothing_stay_apart.Goals as goal

abbrev pair : KernelState → ℕ → ℕ → ℕ → Type 0
pair k guest monitor = Pair (pd_of k guest) (pd_of k monitor)

pub returns-clause-apart : goal.returns-clause-apart
returns-clause-apart c k turns guest monitor other_guest other_monitor at =
    rw at.is (λ apart. apart_along at.scenario at.before turns (pair (run (boot at.scenario) at.before) guest monitor) (pair (run (boot at.scenario) at.before) other_guest other_monitor) apart.apart)

pub returns-clause-acts : goal.returns-clause-acts
returns-clause-acts c k turns guest monitor other_guest other_monitor cpu ec at =
    rw at.is (λ apart. acts_along at.scenario at.before turns (pair (run (boot at.scenario) at.before) guest monitor) (pair (run (boot at.scenario) at.before) other_guest other_monitor) cpu ec apart.apart.separate)

pub returns-clause-reach : goal.returns-clause-reach
returns-clause-reach c k turns guest monitor other_guest other_monitor right frame at =
    rw at.is (λ apart. reach_along at.scenario at.before turns (pair (run (boot at.scenario) at.before) guest monitor) (pair (run (boot at.scenario) at.before) other_guest other_monitor) right frame apart.apart.separate)

pub returns-clause-leaves : goal.returns-clause-leaves
returns-clause-leaves c k turns guest monitor other_guest other_monitor cpu ec at =
    rw at.is (λ apart. leaves_along at.scenario at.before turns (pair (run (boot at.scenario) at.before) other_guest other_monitor) (pair (run (boot at.scenario) at.before) guest monitor) cpu ec (flipped (run (boot at.scenario) at.before) (pair (run (boot at.scenario) at.before) guest monitor) (pair (run (boot at.scenario) at.before) other_guest other_monitor) apart.apart.separate))

pub returns-clause-stays : goal.returns-clause-stays
returns-clause-stays c k turns guest monitor other_guest other_monitor cpu ec n at =
    rw at.is (λ apart. contexts_stay at.scenario at.before turns (pair (run (boot at.scenario) at.before) other_guest other_monitor) (pair (run (boot at.scenario) at.before) guest monitor) cpu ec n (apart_flipped (run (boot at.scenario) at.before) (pair (run (boot at.scenario) at.before) guest monitor) (pair (run (boot at.scenario) at.before) other_guest other_monitor) apart.apart))

pub returns-clause-frames : goal.returns-clause-frames
returns-clause-frames c k turns guest monitor other_guest other_monitor cpu ec frame at =
    rw at.is (λ apart acts_ m reaches. set_stores at.scenario at.before turns (pair (run (boot at.scenario) at.before) guest monitor) (pair (run (boot at.scenario) at.before) other_guest other_monitor) cpu ec frame apart.apart.separate acts_ m (λ mine. apart.memory frame (any_reached mine) reaches))

pub returns-clause-blind : goal.returns-clause-blind
returns-clause-blind c k turns guest monitor other_guest other_monitor cpu ec frame bytes at =
    rw at.is (λ apart acts_ m reaches. turn_blind at.scenario at.before turns (pair (run (boot at.scenario) at.before) guest monitor) (pair (run (boot at.scenario) at.before) other_guest other_monitor) cpu ec frame bytes apart.apart.separate acts_ m (λ its mine. apart.memory frame (any_reached mine) reaches))

pub returns-clause-flipped : goal.returns-clause-flipped
returns-clause-flipped c k guest monitor other_guest other_monitor apart = record {
  apart = apart_flipped k (pair k guest monitor) (pair k other_guest other_monitor) apart.apart;
  memory = λ frame theirs mine. apart.memory frame mine theirs;
}
