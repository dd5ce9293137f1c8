-- What orders come to from a state on.
use Rattle.std.specs.Prelude.{ℕ, zero, suc, ◌==◌, ◌||◌, Bool, false, Option, Some, None}
use Rattle.std.specs.List.{list_any, range_with_len}
use Rattle.nova_model.specs.Choice.{is_quiet}
use Rattle.nova_model.specs.Runs.{after}
use Rattle.nova_model.specs.State.{KernelState}
use Rattle.nova_asking.specs.Locations.{next_actor}
use Rattle.nova_asking.specs.declared.aim.Aim.{Aim}
use Rattle.nova_asking.specs.declared.aim.Aim.TheVariants as aim

-- a state passes a test, or one does that some order of at most so many turns of the first `cpus` processors leads to
abbrev pub comes_within : (KernelState → Bool) → ℕ → ℕ → KernelState → Bool
comes_within test cpus zero k = test k
comes_within test cpus (suc turns) k = test k || list_any (λ (cpu : ℕ). comes_within test cpus turns (after k cpu)) (range_with_len 0 cpus)

abbrev pub is_number : ℕ → Option ℕ → Bool
is_number n (Some m) = m == n
is_number n None = false

-- an execution context acts in the next turn of a processor, and of some processor
abbrev pub acts_on : ℕ → KernelState → ℕ → Bool
acts_on ec k cpu = is_number ec (next_actor k cpu)

abbrev pub acts : ℕ → KernelState → Bool
acts ec k = list_any (acts_on ec k) (range_with_len 0 k.cpus)

-- what is aimed at has come: the run has ended, or the execution context acts next
abbrev pub is_aim : Aim → KernelState → Bool
is_aim aim.End k = is_quiet k
is_aim (aim.Act ec) k = acts ec k
