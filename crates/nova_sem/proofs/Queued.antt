-- First in, first out.
use Rattle.std.proofs.Common.{◌≡◌, ℕ, List, [], ◌∷◌, ◌++◌, refl, ap, sym, ◌∙◌, append_assoc}
use Rattle.std.specs.Prelude.{◌==◌, ◌-◌, Bool, true, false, if◌then◌else◌, None}
use Rattle.std.specs.declared.result.Result.TheVariants.{Ok, Err}
use Rattle.std.proofs.lemmas.List.{append-nil}
use Rattle.nova_model.specs.State.{Semaphore}
use Rattle.nova_model.specs.Semaphores.{greatest, woken_of, raised_with}
use Rattle.nova_sem.specs.Sound.{Call, Up, DownBy, called, after, comes, goes, woken_one, all_that_come, all_that_go, FirstInFirstOut}

up_step : (count : ℕ) (ecs : List ℕ) → ecs ++ [] ≡ woken_one (woken_of count ecs) ++ (raised_with count ecs).waiting
up_step count [] = by_test (count == greatest)
  where
    by_test : (t : Bool) → [] ≡ woken_one (if t then Err (record {}) else Ok None) ++ []
    by_test true = refl
    by_test false = refl
up_step count (ec ∷ ecs) = append-nil (ec ∷ ecs)

down_step : (s : Semaphore) (ec : ℕ) (t : Bool) →
    s.waiting ++ (if t then ec ∷ [] else []) ≡ (if t then record s { waiting = s.waiting ++ ec ∷ [] } else record s { count = s.count - 1 }).waiting
down_step s ec true = refl
down_step s ec false = append-nil s.waiting

-- one call
step : (s : Semaphore) (call : Call) → s.waiting ++ comes s call ≡ goes s call ++ (called s call).waiting
step s Up = up_step s.count s.waiting
step s (DownBy ec) = down_step s ec (s.count == 0)

pub first_in_first_out : FirstInFirstOut
first_in_first_out s [] = append-nil s.waiting
first_in_first_out s (call ∷ calls) =
    sym (append_assoc s.waiting (comes s call) (all_that_come (called s call) calls))
    ∙ ap (λ (l : List ℕ). l ++ all_that_come (called s call) calls) (step s call)
    ∙ append_assoc (goes s call) (called s call).waiting (all_that_come (called s call) calls)
    ∙ ap (λ (l : List ℕ). goes s call ++ l) (first_in_first_out (called s call) calls)
    ∙ sym (append_assoc (goes s call) (all_that_go (called s call) calls) (after s (call ∷ calls)).waiting)
