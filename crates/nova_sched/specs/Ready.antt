-- The scheduling contexts of a processor that may run, in the order in which they run.
use Rattle.std.specs.Prelude.{◌≡◌, ◌≤◌, ◌<◌, ◌+◌, ◌⊎◌, ℕ, Bool, true, false, length, List, [], ◌∷◌, slice_get, slice_set, if◌then◌else◌, Option, Some, None}
use Rattle.nova_model.specs.Forest.{ArePairs}
use Rattle.nova_sched.specs.Queues.{Schedule, runnable_of, runnables_from, runs_before}
use Rattle.nova_sched.specs.Lists.{QueueState, entry_in, members_at}
use Rattle.nova_sched.specs.Precedence.{AreStamped}
use Rattle.nova_sched.specs.declared.queued.Queued.{Queued}
use Rattle.nova_sched.specs.declared.queued.Runnable.{Runnable}

-- those of a processor, and for how many in all there is room
pub record ReadyState : Type 0 where
  pub items : List Runnable
  pub room : ℕ

abbrev pub IsBehind : Runnable → Runnable → Type 0
IsBehind a b = runs_before a b ≡ true

-- one more, behind those that run before it
abbrev pub placed : Runnable → List Runnable → List Runnable
placed r [] = r ∷ []
placed r (q ∷ qs) = if runs_before q r then q ∷ placed r qs else r ∷ q ∷ qs

-- without the first that does not run before one
abbrev pub dropped : Runnable → List Runnable → List Runnable
dropped r [] = []
dropped r (q ∷ qs) = if runs_before q r then q ∷ dropped r qs else qs

-- the runnable that runs first does so with a new stamp too
pub record StaysFirst (before after : Runnable) (rs : List Runnable) : Type 0 where
  pub there : 0 < length rs
  pub place : placed after (dropped before rs) ≡ slice_set rs 0 after

-- a scheduling context as it waits for its turn
abbrev pub as_runnable : ℕ → Queued → Runnable
as_runnable sc e = record { sc = sc; priority = e.priority; stamp = e.budget.stamp }

-- by whether it could run before, and whether it can now
abbrev pub requeued : Bool → Bool → Runnable → List Runnable → List Runnable
requeued false false r rs = rs
requeued false true r rs = placed r rs
requeued true false r rs = dropped r rs
requeued true true r rs = rs

-- by whether it can run: from its place to that of its new stamp
abbrev pub renewed : Bool → Runnable → Runnable → List Runnable → List Runnable
renewed false before after rs = rs
renewed true before after rs = placed after (dropped before rs)

abbrev pub IsAmong : List Runnable → Runnable → Type 0
IsAmong [] r = ⊥
IsAmong (q ∷ qs) r = (q ≡ r) ⊎ IsAmong qs r

-- they are the runnable ones of the processor, and as many
pub record IsReady (cpu : ℕ) (entries : List (Option Queued)) (ready : List Runnable) : Type 0 where
  pub each : (r : Runnable) → IsAmong ready r → runnable_of cpu r.sc (entry_in entries r.sc) ≡ Some r
  pub all : (sc : ℕ) (r : Runnable) → runnable_of cpu sc (entry_in entries sc) ≡ Some r → IsAmong ready r
  pub order : ArePairs IsBehind ready
  pub count : length ready ≡ length (runnables_from cpu 0 entries)

-- by processor; a processor that isn't there has none
abbrev pub items_of : Option ReadyState → List Runnable
items_of None = []
items_of (Some r) = r.items

abbrev pub items_at : List ReadyState → ℕ → List Runnable
items_at readies cpu = items_of (slice_get readies cpu)

abbrev pub room_of : Option ReadyState → ℕ
room_of None = 0
room_of (Some r) = r.room

abbrev pub room_at : List ReadyState → ℕ → ℕ
room_at readies cpu = room_of (slice_get readies cpu)

abbrev pub spare_of : Option QueueState → ℕ
spare_of None = 0
spare_of (Some q) = q.spare

abbrev pub spare_at : List QueueState → ℕ → ℕ
spare_at queues cpu = spare_of (slice_get queues cpu)

-- each processor has its own, with room for all of its scheduling contexts and for those that there is room for
pub record AreReady (queues : List QueueState) (readies : List ReadyState) (s : Schedule) : Type 0 where
  pub cpus : length readies ≡ length queues
  pub ready : (cpu : ℕ) → IsReady cpu s.entries (items_at readies cpu)
  pub room : (cpu : ℕ) → length (members_at queues cpu) + spare_at queues cpu ≤ room_at readies cpu
  pub stamped : AreStamped s
