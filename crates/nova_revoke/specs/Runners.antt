-- A list of the revokes that run, by the number of the execution context.
use Rattle.std.specs.Prelude.{ℕ, suc, ◌==◌, Bool, nat_lt, List, [], ◌∷◌, slice_get, Option, option_map, if◌then◌else◌}
use Rattle.std.specs.List.{insert, list_any, remove}
use Rattle.nova_model.specs.Revokes.{Revocation, busy}
use Rattle.nova_model.specs.Running.{Running}
use Rattle.nova_model.specs.declared.delegation.Derivation.{Derivation}

-- those that run, by the number of the execution context, and how many may
pub record RevokesState : Type 0 where
  pub list : List Running
  pub places : ℕ

-- where the revoke of an execution context stands, or the end of the list, and that revoke
abbrev pub index_of : ℕ → List Running → ℕ
index_of ec [] = 0
index_of ec (w ∷ ws) = if w.ec == ec then 0 else suc (index_of ec ws)

abbrev pub revoke_in : ℕ → List Running → Option Revocation
revoke_in ec list = option_map (λ w. w.revoke) (slice_get list (index_of ec list))

-- where the revoke of `ec` goes: before the first of a greater number
abbrev pub place_of : ℕ → List Running → ℕ
place_of ec [] = 0
place_of ec (w ∷ ws) = if nat_lt ec w.ec then 0 else suc (place_of ec ws)

-- a revoke begins, and that of an execution context is over
abbrev pub begun_in : Running → List Running → List Running
begun_in w list = insert list (place_of w.ec list) w

abbrev pub ended_in : ℕ → List Running → List Running
ended_in ec list = remove list (index_of ec list)

-- a new derivation is busy while these run
abbrev pub busy_under : List Running → List Derivation → Derivation → Bool
busy_under runs list x = list_any (λ w. busy w.revoke list x) runs
