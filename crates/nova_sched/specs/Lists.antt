-- How scheduling contexts are kept: a table by number, and for each processor a list of its numbers.
use Rattle.std.specs.Prelude.{◌≡◌, ℕ, ◌+◌, ◌-◌, List, [], ◌∷◌, map, slice_get, Option, Some, None, if◌then◌else◌}
use Rattle.nova_model.specs.Choice.{in_front}
use Rattle.nova_model.specs.State.{entry}
use Rattle.nova_model.specs.Turn.{is_spent, budget_after}
use Rattle.nova_sched.specs.Queues.{members_from}
use Rattle.nova_sched.specs.Best.{foremost}
use Rattle.nova_sched.specs.declared.queued.Queued.{Queued}
use Rattle.nova_sched.specs.declared.queued.Runnable.{Runnable}

-- the numbers of a processor's scheduling contexts, and for how many more there is room
pub record QueueState : Type 0 where
  pub members : List ℕ
  pub spare : ℕ

abbrev pub members_of : Option QueueState → List ℕ
members_of None = []
members_of (Some q) = q.members

-- the numbers that a processor's queue has: none where the processor isn't there
abbrev pub members_at : List QueueState → ℕ → List ℕ
members_at queues cpu = members_of (slice_get queues cpu)

-- each processor's queue has the numbers of its scheduling contexts, and so none is of a processor that isn't there
abbrev pub AreQueues : List QueueState → List (Option Queued) → Type 0
AreQueues queues entries = (cpu : ℕ) → members_at queues cpu ≡ members_from cpu 0 entries

-- the scheduling context of a number
abbrev pub entry_in : List (Option Queued) → ℕ → Option Queued
entry_in entries sc = entry (slice_get entries sc)

abbrev pub waiting : ℕ → Option Queued → Option Runnable
waiting sc None = None
waiting sc (Some e) = if e.is_runnable then Some (record { sc = sc; priority = e.priority; stamp = e.budget.stamp }) else None

-- the same where it is runnable
abbrev pub runnable_in : List (Option Queued) → ℕ → Option Runnable
runnable_in entries sc = waiting sc (entry_in entries sc)

-- the runnable ones among these numbers
abbrev pub runnable_among : List (Option Queued) → List ℕ → List Runnable
runnable_among entries [] = []
runnable_among entries (sc ∷ scs) = in_front (runnable_in entries sc) (runnable_among entries scs)

abbrev pub foremost_among : List (Option Queued) → List ℕ → Option Runnable
foremost_among entries scs = foremost (runnable_among entries scs)

-- a turn is paid
abbrev pub paid : Queued → ℕ → Queued
paid e stamp = record e { budget = budget_after (is_spent e.budget) e.quantum stamp e.budget }

-- `n` turns are paid, fewer than are left
abbrev pub used_up : Queued → ℕ → Queued
used_up e n = record e { budget = record { left = e.budget.left - n; stamp = e.budget.stamp; ticks = e.budget.ticks + n } }

-- the same queues with no room for more
abbrev pub with_no_room : QueueState → QueueState
with_no_room q = record q { spare = 0 }

abbrev pub unroomed : List QueueState → List QueueState
unroomed queues = map with_no_room queues
