-- How the queues of scheduling contexts stand to the state: each scheduling context waits as its object says, with its budget, and is marked
-- runnable where its turns lead to an execution context that acts.
use Rattle.std.specs.Prelude.{ℕ, suc, ◌≡◌, ◌≢◌, ◌<◌, ◌≤◌, ◌==◌, ◌&&◌, Bool, true, false, not, List, [], ◌∷◌, length, map, max, slice_get, Option, Some, None, IfSome, is_some, option_and_then, option_map, if◌then◌else◌}
use Rattle.nova_objects.specs.declared.object.EcKind.TheVariants.{Global, Vcpu}
use Rattle.nova_objects.specs.declared.object.Object.{Object}
use Rattle.nova_objects.specs.declared.object.Object.TheVariants.{Ec, Sc}
use Rattle.nova_model.specs.Deeds.{actor_after}
use Rattle.nova_model.specs.Edges.{acts, after_edges, chase, cpu_in, edge}
use Rattle.nova_model.specs.State.{Contexts, KernelState, budget_at, context, with_ec}
use Rattle.nova_model.specs.declared.budget.Budget.{Budget}
use Rattle.nova_model.specs.declared.context.EcState.{EcState}
use Rattle.nova_model.specs.declared.context.Mark.TheVariants.{Exit}
use Rattle.nova_model.specs.declared.context.State.{State}
use Rattle.nova_model.specs.declared.context.State.TheVariants.{Ready, Calling}
use Rattle.nova_model.specs.declared.deed.Deed.{Deed}
use Rattle.nova_model.specs.declared.deed.Deed.TheVariants.{Dies, Waits, Makes, Helps, Aborts, Ups, Blocks}
use Rattle.nova_model.specs.declared.new_object.NewObject.{NewObject}
use Rattle.nova_model.specs.declared.new_object.NewObject.TheVariants as new
use Rattle.nova_model.specs.declared.root.Root.{Root}
use Rattle.nova_ec.specs.Tables.{actor_in}
use Rattle.nova_sched.specs.Queues.{HasRoom, QueuesState, Schedule, added, marked, padded, queued_at}
use Rattle.nova_sched.specs.declared.queued.Queued.{Queued}

-- the budgets of scheduling contexts, in a table of `count` numbers
unfoldable pub budgets_of : Schedule → ℕ → List (Option Budget)
budgets_of s count = padded count (map (option_map (λ e. e.budget)) s.entries)

-- an execution context that is ready acts in its own turns
abbrev pub is_ready : State → Bool
is_ready Ready = true
is_ready other = false

abbrev pub is_ready_at : Option EcState → Bool
is_ready_at (Some x) = is_ready x.state
is_ready_at None = false

-- the handler that it called, where it waits for a reply
abbrev pub called_of : State → Option ℕ
called_of (Calling handler) = Some handler
called_of other = None

abbrev pub called_at : Option EcState → Option ℕ
called_at (Some x) = called_of x.state
called_at None = None

-- the turns that an execution context is given lead to a context that acts
abbrev pub leads : Contexts → ℕ → Bool
leads cs ec = acts cs (chase cs ec)

-- the context that acts in the turns of a scheduling context
abbrev pub actor_of : Contexts → Option Object → Option ℕ
actor_of cs (Some (Sc ec cpu priority quantum)) = actor_in cs ec
actor_of cs other = None

-- how a scheduling context waits
abbrev pub wanted_with : Contexts → Option Object → Option Budget → Option Queued
wanted_with cs (Some (Sc ec cpu priority quantum)) (Some b) =
    Some (record { cpu = cpu; priority = priority; quantum = quantum; is_runnable = leads cs ec; budget = b })
wanted_with cs object budget = None

abbrev pub wanted : KernelState → ℕ → Option Queued
wanted k sc = wanted_with k.contexts (slice_get k.objects sc) (budget_at k sc)

-- an execution context is of the processor that its object names, one of `cpus`, and a scheduling context of that of its execution context
abbrev pub IsAtHome : ℕ → Contexts → ℕ → Option Object → Type 0
IsAtHome cpus cs number (Some (Ec pd cpu kind event)) = (cpu < cpus) × (cpu_in cs number ≡ Some cpu)
IsAtHome cpus cs number (Some (Sc ec cpu priority quantum)) = (cpu < cpus) × (cpu_in cs ec ≡ Some cpu)
IsAtHome cpus cs number other = Unit {0}

-- a new object is to be so
abbrev pub HasHome : ℕ → Contexts → NewObject → Type 0
HasHome cpus cs (new.Ec pd cpu kind sp event) = cpu < cpus
HasHome cpus cs (new.Sc ec cpu priority quantum) = (cpu < cpus) × (cpu_in cs ec ≡ Some cpu)
HasHome cpus cs other = Unit {0}

-- the processor of an execution context that may have a scheduling context: any but a local thread
abbrev pub processor_at : Option Object → Option ℕ
processor_at (Some (Ec pd cpu Global event)) = Some cpu
processor_at (Some (Ec pd cpu Vcpu event)) = Some cpu
processor_at other = None

-- a scheduling context is of an execution context of its processor that is no local thread
abbrev pub IsOwned : List Object → Option Object → Type 0
IsOwned objects (Some (Sc ec cpu priority quantum)) = processor_at (slice_get objects ec) ≡ Some cpu
IsOwned objects other = Unit {0}

-- a new object is to be of a processor that is there, a scheduling context of that of its execution context, which is no local thread
abbrev pub IsPlacedIn : KernelState → NewObject → Type 0
IsPlacedIn k (new.Ec pd cpu kind sp event) = cpu < k.cpus
IsPlacedIn k (new.Sc ec cpu priority quantum) = processor_at (slice_get k.objects ec) ≡ Some cpu
IsPlacedIn k other = Unit {0}

-- without the marks of one processor, where it is to be marked anew
abbrev pub but_for : Option ℕ → Option Queued → Option Queued
but_for None o = o
but_for (Some cpu) None = None
but_for (Some cpu) (Some e) = Some (record e { is_runnable = not (e.cpu == cpu) && e.is_runnable })

-- the queues hold each scheduling context as it is, but for the marks of that processor
pub record AreQueuedBut (stale : Option ℕ) (k : KernelState) (s : Schedule) : Type 0 where
  pub cpus : k.cpus ≤ s.cpus
  pub numbers : length s.entries ≤ length k.objects
  pub stamp : s.next_stamp ≡ k.next_stamp
  pub entries : (sc : ℕ) → but_for stale (queued_at s sc) ≡ but_for stale (wanted k sc)
  pub homes : (number : ℕ) → IsAtHome s.cpus k.contexts number (slice_get k.objects number)
  pub owners : (number : ℕ) → IsOwned k.objects (slice_get k.objects number)

abbrev pub AreQueued : KernelState → Schedule → Type 0
AreQueued k s = AreQueuedBut None k s

-- the execution context of a scheduling context
abbrev pub owner_in : Option Object → Option ℕ
owner_in (Some (Sc ec cpu priority quantum)) = Some ec
owner_in other = None

-- its way along edges never comes to the other, not even without an edge
abbrev pub Avoids : Contexts → ℕ → ℕ → Type 0
Avoids cs other ec = (n : ℕ) → after_edges n (edge cs) ec ≢ Some other

-- no way of one edge or more does
abbrev pub NeverWaits : Contexts → ℕ → ℕ → Type 0
NeverWaits cs other ec = (n : ℕ) → after_edges (suc n) (edge cs) ec ≢ Some other

-- scheduling contexts of such are queued as they are
abbrev pub AreQueuedWhere : (ℕ → Type 0) → KernelState → Schedule → Type 0
AreQueuedWhere P k s = (sc : ℕ) → IfSome (owner_in (slice_get k.objects sc)) P → queued_at s sc ≡ wanted k sc

-- A context moved: the queues are right but for the marks of its processor, `moved`, and of those but for the marks of scheduling contexts whose ways
-- come to `at`, which may be itself.
pub record AreQueuedBy (moved at : ℕ) (k : KernelState) (s : Schedule) : Type 0 where
  pub near : AreQueuedBut (cpu_in k.contexts moved) k s
  pub others : AreQueuedWhere (Avoids k.contexts at) k s

-- the same where those of `at` itself are right too
pub record AreQueuedBeyond (moved at : ℕ) (k : KernelState) (s : Schedule) : Type 0 where
  pub near : AreQueuedBut (cpu_in k.contexts moved) k s
  pub others : AreQueuedWhere (NeverWaits k.contexts at) k s

-- where perhaps one moved
abbrev pub AreQueuedAfter : Option ℕ → KernelState → Schedule → Type 0
AreQueuedAfter None k s = AreQueued k s
AreQueuedAfter (Some moved) k s = AreQueuedBy moved moved k s

-- WHAT CHANGES

-- a scheduling context that is made has room in the queue of its processor
abbrev pub HasQueue : NewObject → ℕ → QueuesState → Type 0
HasQueue (new.Sc ec cpu priority quantum) number q = (cpu < q.all.cpus) × HasRoom q number cpu
HasQueue other number q = Unit {0}

-- a new scheduling context is of one of the processors that have a queue
abbrev pub FitsQueues : Deed → Schedule → Type 0
FitsQueues (Makes call target (new.Sc ec cpu priority quantum)) s = cpu < s.cpus
FitsQueues other s = Unit {0}

-- a new scheduling context of this number is added, and marked
abbrev pub joined : Contexts → Schedule → ℕ → NewObject → Schedule
joined cs s number (new.Sc ec cpu priority quantum) = marked (added s number cpu priority quantum) number (leads cs ec)
joined cs s number other = s

abbrev pub schedule_after : KernelState → ℕ → Schedule → Deed → Schedule
schedule_after k ec s (Makes call target new) = joined (with_ec k.contexts ec (actor_after (context k ec) (Makes call target new))) s (length k.objects) new
schedule_after k ec s other = s

-- A context that does this may cease to act, and no other begins to in the turns that led to it. After any other deed they lead to a context that
-- acts as before: to itself; to the handler that it calls or to which it raises an exit; or to the caller to which it replies.
abbrev pub is_moving : Deed → Bool
is_moving (Dies reason q0) = true
is_moving (Waits handler reason q0 q1) = true
is_moving (Helps handler) = true
is_moving (Aborts handler Exit) = true
is_moving (Blocks sm until) = true
is_moving other = false

-- an up affects only the context that it wakes, which may be of another processor
abbrev pub moved_by : ℕ → Deed → Option ℕ
moved_by ec (Ups sm whom) = whom
moved_by ec d = if is_moving d then Some ec else None

-- so that the marks of that context's processor are old then
abbrev pub stale_by : Contexts → ℕ → Deed → Option ℕ
stale_by cs ec d = option_and_then (cpu_in cs) (moved_by ec d)

-- scheduling contexts are marked one after another
abbrev pub remarked : List Object → Contexts → List ℕ → Schedule → Schedule
remarked objects cs [] s = s
remarked objects cs (sc ∷ scs) s = remarked objects cs scs (marked s sc (is_some (actor_of cs (slice_get objects sc))))

-- AT BOOT

-- the root's scheduling context alone; a machine without processors has a queue for it too
unfoldable pub root_schedule : ℕ → Root → Schedule
root_schedule cpus root = marked (added (record { entries = []; next_stamp = 0; cpus = max cpus 1 }) 2 0 root.priority root.quantum) 2 true
