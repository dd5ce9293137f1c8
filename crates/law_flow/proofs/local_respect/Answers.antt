use Rattle.nova_model.specs.Boot.{boot}
use Rattle.nova_model.specs.Runs.{run}
use Rattle.law_integrity.specs.Confined.{Of}
use Rattle.law_flow.specs.Flow.{existing, fixed}
use Rattle.law_flow.proofs.Apart.{free, free_works, left_along}
use Rattle.law_flow.proofs.Guarding.{foreign_so, others_leave_alone}
use Rattle.law_flow.proofs.Pairs.{never}
use Rattle.law_flow.proofs.Whole.{left_whole}
use Rattle.law_flow.proofs.local_respect.Goals as goal

pub returns-clause-turn : goal.returns-clause-turn
returns-clause-turn c s turns S T P cpu = others_leave_alone s turns S P (Of T) cpu

pub returns-clause-creating : goal.returns-clause-creating
returns-clause-creating c s turns S T P cpu part timeless =
    left_whole s turns S P (Of T) cpu part (foreign_so (run (boot s) turns) (Of (existing (run (boot s) turns) P)) cpu timeless)

pub returns-clause-turns : goal.returns-clause-turns
returns-clause-turns c revokes s before turns S T P part timeless derives works =
    left_along (fixed revokes) s before turns S P (Of T) (record { apart = part; timeless = timeless; derives = derives }) (λ h. absurd (never h)) works

pub returns-clause-along : goal.returns-clause-along
returns-clause-along c allowed s before turns S T P part timeless alone derives nothing works =
    left_along (free allowed.revokes) s before turns S P (Of T) (record { apart = record { part = part; alone = alone }; timeless = timeless; derives = derives }) (λ yes. nothing) (free_works allowed S (run (boot s) before) turns works)
