-- What a kernel counts that none of its calls reads: the clock of each processor, the stamps of scheduling contexts, the stamp that is given next, and the id of
-- the next derivation. And how a turn changes it, by what is read before and after.
use Rattle.std.specs.Prelude.{◌≡◌, ℕ, ◌+◌, ◌-◌, ◌==◌, Bool, true, false, List, [], ◌∷◌, ◌++◌, length, map, replicate, slice_get, slice_index, slice_set, Option, Some, None}
use Rattle.nova_objects.specs.declared.object.Object.{Object}
use Rattle.nova_objects.specs.declared.object.Object.TheVariants.{Sc}
use Rattle.nova_model.specs.State.{KernelState, budget_at}
use Rattle.nova_model.specs.declared.budget.Budget.{Budget}
use Rattle.nova_model.specs.declared.event.Event.{Event}
use Rattle.nova_model.specs.declared.event.EventKind.{EventKind}
use Rattle.nova_model.specs.declared.event.EventKind.TheVariants as event
use Rattle.law_turns.specs.Budgets.{left_in}

pub record Counts : Type 0 where
  pub clocks : List ℕ
  pub stamps : List (Option ℕ)
  pub next_stamp : ℕ
  pub next_id : ℕ

abbrev pub stamp_in : Option Budget → Option ℕ
stamp_in (Some b) = Some b.stamp
stamp_in None = None

-- those of a state
abbrev pub counts_of : KernelState → Counts
counts_of k = record {
  clocks = k.times.clocks;
  stamps = map stamp_in k.budgets;
  next_stamp = k.next_stamp;
  next_id = k.delegations.next;
}

-- the stamp of an object when a kernel begins
abbrev pub first_stamp : Object → Option ℕ
first_stamp (Sc ec cpu priority quantum) = Some 0
first_stamp other = None

-- with the object that a turn made, which has a derivation; a scheduling context takes the next stamp
abbrev pub with_object : Counts → Option Object → Counts
with_object t None = t
with_object t (Some (Sc ec cpu priority quantum)) =
    record t { stamps = t.stamps ++ Some t.next_stamp ∷ []; next_stamp = t.next_stamp + 1; next_id = t.next_id + 1 }
with_object t (Some other) = record t { stamps = t.stamps ++ None ∷ []; next_id = t.next_id + 1 }

-- a child that was given is a derivation
abbrev pub with_child : Counts → EventKind → Counts
with_child t event.Made = record t { next_id = t.next_id + 1 }
with_child t other = t

-- a scheduling context of which this is left pays a turn; where that was the last, it takes the next stamp
abbrev pub renewed : Counts → ℕ → Bool → Counts
renewed t sc true = record t { stamps = slice_set t.stamps sc (Some t.next_stamp); next_stamp = t.next_stamp + 1 }
renewed t sc false = t

abbrev pub paid_with : Counts → ℕ → Option ℕ → Counts
paid_with t sc None = t
paid_with t sc (Some left) = renewed t sc (left - 1 == 0)

-- no scheduling context pays for what comes by itself
abbrev pub paid : Counts → ℕ → Option ℕ → EventKind → Counts
paid t sc left event.Late = t
paid t sc left event.Irq = t
paid t sc left event.Tick = t
paid t sc left other = paid_with t sc left

abbrev pub ticked : Counts → ℕ → Counts
ticked t cpu = record t { clocks = slice_set t.clocks cpu (slice_index t.clocks cpu + 1) }

-- what is counted after a turn of this event, from one state to another
abbrev pub counts_after : Counts → KernelState → Event → KernelState → Counts
counts_after t k e s =
    ticked (paid (with_child (with_object t (slice_get s.objects (length k.objects))) e.kind) e.sc (left_in (budget_at k e.sc)) e.kind) e.cpu

-- what is counted when a kernel begins: no processor took a turn, the root's scheduling context has the first stamp, and there is a derivation for RAM, for each
-- console and for each object
pub record IsFresh (k : KernelState) : Type 0 where
  pub clocks : k.times.clocks ≡ replicate k.cpus 0
  pub processors : k.stirs.processors ≡ replicate k.cpus 0
  pub stamps : map stamp_in k.budgets ≡ map first_stamp k.objects
  pub next : k.next_stamp ≡ 1
  pub id : k.delegations.next ≡ k.consoles + 1 + length k.objects
