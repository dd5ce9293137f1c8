-- Scheduling contexts as they wait for turns: which of a processor has the next turn, and what a turn is charged to.
use Rattle.std.specs.Prelude.{ℕ, zero, suc, ◌+◌, ◌-◌, ◌<◌, ◌==◌, ◌&&◌, Bool, false, if◌then◌else◌, List, [], ◌∷◌, ◌++◌, length, replicate, slice_get, slice_index, slice_set, Option, Some, None, option_map}
use Rattle.nova_model.specs.Choice.{in_front, first_of, outranks}
use Rattle.nova_model.specs.State.{entry}
use Rattle.nova_model.specs.Turn.{is_spent, budget_after, stamp_after}
use Rattle.nova_sched.specs.declared.queued.Queued.{Queued}
use Rattle.nova_sched.specs.declared.queued.Runnable.{Runnable}

-- by number a scheduling context or nothing, the stamp that is given next, and the number of processors
pub record Schedule : Type 0 where
  pub entries : List (Option Queued)
  pub next_stamp : ℕ
  pub cpus : ℕ

-- and for which numbers, and for how many more of each processor, there is room
pub record QueuesState : Type 0 where
  pub all : Schedule
  pub numbers : ℕ
  pub rooms : List ℕ

pub record HasRoom (q : QueuesState) (sc cpu : ℕ) : Type 0 where
  pub number : sc < q.numbers
  pub member : 0 < slice_index q.rooms cpu

-- the scheduling context of a number
abbrev pub queued_at : Schedule → ℕ → Option Queued
queued_at s sc = entry (slice_get s.entries sc)

-- WHICH IS NEXT

-- one of the processor that is runnable
abbrev pub runnable_of : ℕ → ℕ → Option Queued → Option Runnable
runnable_of cpu sc None = None
runnable_of cpu sc (Some e) =
    if (e.cpu == cpu) && e.is_runnable then Some (record { sc = sc; priority = e.priority; stamp = e.budget.stamp }) else None

-- those among scheduling contexts that are numbered from `sc` on
abbrev pub runnables_from : ℕ → ℕ → List (Option Queued) → List Runnable
runnables_from cpu sc [] = []
runnables_from cpu sc (o ∷ os) = in_front (runnable_of cpu sc o) (runnables_from cpu (sc + 1) os)

abbrev pub runnables : Schedule → ℕ → List Runnable
runnables s cpu = runnables_from cpu 0 s.entries

-- a greater priority, or the same and a lesser stamp
abbrev pub runs_before : Runnable → Runnable → Bool
runs_before a b = outranks a.priority a.stamp b.priority b.stamp

-- the runnable scheduling context before which no other of the processor runs
unfoldable pub next : Schedule → ℕ → Option Runnable
next s cpu = first_of runs_before (runnables s cpu)

abbrev pub choose : Schedule → ℕ → Option ℕ
choose s cpu = option_map (λ r. r.sc) (next s cpu)

-- the numbers of a processor's scheduling contexts, by rising number
abbrev pub member_of : ℕ → ℕ → Option Queued → Option ℕ
member_of cpu sc None = None
member_of cpu sc (Some e) = if e.cpu == cpu then Some sc else None

abbrev pub members_from : ℕ → ℕ → List (Option Queued) → List ℕ
members_from cpu sc [] = []
members_from cpu sc (o ∷ os) = in_front (member_of cpu sc o) (members_from cpu (sc + 1) os)

abbrev pub members : Schedule → ℕ → List ℕ
members s cpu = members_from cpu 0 s.entries

-- WHAT CHANGES

abbrev pub with_entry : Schedule → ℕ → Queued → Schedule
with_entry s sc e = record s { entries = slice_set s.entries sc (Some e) }

-- a new one, with a full quantum, no ticks and the next stamp, isn't runnable until that is said
abbrev pub new_entry : ℕ → ℕ → ℕ → ℕ → Queued
new_entry cpu priority quantum stamp =
    record { cpu = cpu; priority = priority; quantum = quantum; is_runnable = false; budget = record { left = quantum; stamp = stamp; ticks = 0 } }

-- entries up to a number: nothing stands where nothing was added
abbrev pub padded : {T : Type 0} → ℕ → List (Option T) → List (Option T)
padded n xs = xs ++ replicate (n - length xs) None

abbrev pub added : Schedule → ℕ → ℕ → ℕ → ℕ → Schedule
added s sc cpu priority quantum = record s {
  entries = padded sc s.entries ++ Some (new_entry cpu priority quantum s.next_stamp) ∷ [];
  next_stamp = s.next_stamp + 1;
}

abbrev pub marked_by : Schedule → ℕ → Bool → Option Queued → Schedule
marked_by s sc runnable None = s
marked_by s sc runnable (Some e) = with_entry s sc (record e { is_runnable = runnable })

-- the scheduling context is runnable from now on, or isn't
abbrev pub marked : Schedule → ℕ → Bool → Schedule
marked s sc runnable = marked_by s sc runnable (queued_at s sc)

abbrev pub charged_by : Schedule → ℕ → Option Queued → Schedule
charged_by s sc None = s
charged_by s sc (Some e) = record s {
  entries = slice_set s.entries sc (Some (record e { budget = budget_after (is_spent e.budget) e.quantum s.next_stamp e.budget }));
  next_stamp = stamp_after (is_spent e.budget) s.next_stamp;
}

-- a scheduling context pays a turn
abbrev pub charged_schedule : Schedule → ℕ → Schedule
charged_schedule s sc = charged_by s sc (queued_at s sc)

-- and `n` turns, one after another
abbrev pub charged_schedules : ℕ → Schedule → ℕ → Schedule
charged_schedules zero s sc = s
charged_schedules (suc n) s sc = charged_schedule (charged_schedules n s sc) sc
