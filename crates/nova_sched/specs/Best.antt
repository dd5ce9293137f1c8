-- The better of two that are runnable, as a search keeps it.
use Rattle.std.specs.Prelude.{Bool, true, List, Option, Some, None, if◌then◌else◌}
use Rattle.nova_model.specs.Choice.{first_of}
use Rattle.nova_sched.specs.Queues.{runs_before}
use Rattle.nova_sched.specs.declared.queued.Runnable.{Runnable}

-- the best so far yields to a further runnable that runs before it
abbrev pub yields : Option Runnable → Runnable → Bool
yields None r = true
yields (Some b) r = runs_before r b

abbrev pub better : Option Runnable → Option Runnable → Option Runnable
better best None = best
better best (Some r) = if yields best r then Some r else best

-- the runnable before which none of them runs
abbrev pub foremost : List Runnable → Option Runnable
foremost rs = first_of runs_before rs
