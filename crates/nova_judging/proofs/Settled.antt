-- What labels are once they were joined, by the answer.
use Rattle.std.proofs.Common.{◌≡◌, ℕ, ◌==◌, List, Option, Some, None}
use Rattle.std.specs.Prelude.{IfNone, IfSome}
use Rattle.nova_ties.specs.Ties.{AreLeast, AreRespected, IsCoarser, IsStuck, label_in}
use Rattle.nova_ties.specs.declared.tie.Tie.{Tie}
use Rattle.nova_judging.specs.Answers.{AreSettled}

pub settled : (tied : List Tie) (old new : List ℕ) (result : Option Tie) → IfNone result (AreRespected (label_in new) tied) → ((n : ℕ) → (label_in new n == 0) ≡ (label_in old n == 0)) → IsCoarser (label_in new) (label_in old)
    → ((label : ℕ → ℕ) → AreRespected label tied → IsCoarser label (label_in old) → IsCoarser label (label_in new)) → IfSome result (λ (t : Tie). IsStuck tied (label_in old) t) → AreLeast (label_in new) (label_in old) → AreSettled tied old new result
settled tied old new None respected trusted joined finest stuck least = record { respected = respected; trusted = trusted; joined = joined; finest = finest; least = least }
settled tied old new (Some t) respected trusted joined finest stuck least = stuck
