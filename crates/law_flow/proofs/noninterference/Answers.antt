use Rattle.nova_model.specs.Boot.{boot}
use Rattle.nova_model.specs.Runs.{run}
use Rattle.law_integrity.specs.Confined.{Of}
use Rattle.law_flow.specs.Flow.{fixed}
use Rattle.law_flow.proofs.Apart.{free, free_works}
use Rattle.law_flow.proofs.Pairs.{never}
use Rattle.law_flow.proofs.Second.{both_alike}
use Rattle.law_flow.proofs.noninterference.Goals as goal

pub returns-clause-working : goal.returns-clause-working
returns-clause-working c = λ revokes a b before since turns others S T U P first calm second still alike takes works same.
    both_alike (fixed revokes) a b before since turns others S P (Of T) (Of U) (record { apart = first; timeless = calm; derives = λ yes. (takes yes).first }) (record { apart = second; timeless = still; derives = λ yes. (takes yes).second })
    (λ h. absurd (never h)) (λ h. absurd (never h)) alike takes (λ h. absurd (never h)) works same

pub returns-clause-creating : goal.returns-clause-creating
returns-clause-creating c = λ allowed a b before since turns others S T U P first calm second still alike takes alone nothing none works same.
    both_alike (free allowed.revokes) a b before since turns others S P (Of T) (Of U) (record { apart = record { part = first; alone = alone.first }; timeless = calm; derives = λ yes. (takes yes).first })
    (record { apart = record { part = second; alone = alone.second }; timeless = still; derives = λ yes. (takes yes).second }) (λ yes. nothing) (λ yes. none) alike takes (λ yes. alone)
    (free_works allowed S (run (boot a) before) turns works) same
