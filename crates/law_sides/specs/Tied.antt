-- What ties the protection domains of a state to one another, beside semaphores that are shared on purpose and memory that flows on purpose: each tie is one part of the isolation of sides.
use Rattle.std.specs.Prelude.{ℕ, ◌==◌, ◌+◌, ◌^◌, ◌++◌, ◌&&◌, ◌||◌, Bool, true, false, not, if◌then◌else◌, List, [], flat_map, nat_le, nat_lt, slice_get, Option, Some, None, option_to_list}
use Rattle.std.specs.List.{enumerate_from}
use Rattle.nova_objects.specs.declared.object.Object.{Object}
use Rattle.nova_objects.specs.declared.object.Object.TheVariants.{Pd, Ec, Sc, Pt, Sm}
use Rattle.nova_range.specs.Rights.{allows, write_right}
use Rattle.nova_range.specs.declared.range.Kind.{Kind}
use Rattle.nova_range.specs.declared.range.Kind.TheVariants.{Mem, Obj}
use Rattle.nova_model.specs.Delegations.{is_child_of, is_memory}
use Rattle.nova_model.specs.Edges.{edge_of}
use Rattle.nova_model.specs.State.{KernelState, context_at, is_local_thread, pd_of}
use Rattle.nova_model.specs.declared.context.EcState.{EcState}
use Rattle.nova_model.specs.declared.context.Mark.{Mark}
use Rattle.nova_model.specs.declared.context.State.{State}
use Rattle.nova_model.specs.declared.context.State.TheVariants.{Blocked, Granting}
use Rattle.nova_model.specs.declared.delegation.Derivation.{Derivation}
use Rattle.nova_ties.specs.declared.tie.Cause.{Cause}
use Rattle.nova_ties.specs.declared.tie.Cause.TheVariants as cause
use Rattle.nova_ties.specs.declared.tie.Tie.{Tie}
use Rattle.law_sides.specs.Isolated.{came_by_exit, commands}

-- to a side's own or to what is trusted; to a side's own
abbrev pub weak : ℕ → ℕ → Cause → Tie
weak from to why = record { from = from; to = to; strict = false; cause = why }

abbrev pub strict : ℕ → ℕ → Cause → Tie
strict from to why = record { from = from; to = to; strict = true; cause = why }

-- BY CAPABILITIES

-- to the domain to which it leads: to a side's own alone where its rights command the object
abbrev pub leads : Derivation → ℕ → Object → Cause → Tie
leads d to object why = record { from = d.pd; to = to; strict = commands d.rights object; cause = why }

abbrev pub lead_of : KernelState → Derivation → Option Object → Option Tie
lead_of k d (Some Pd) = Some (leads d d.target Pd (cause.Domain d.id))
lead_of k d (Some (Ec pd cpu kind event)) = Some (leads d pd (Ec pd cpu kind event) (cause.Context d.id))
lead_of k d (Some (Sc donor cpu priority quantum)) = Some (leads d (pd_of k donor) (Sc donor cpu priority quantum) (cause.Scheduling d.id))
lead_of k d (Some (Pt handler mtd ip)) = Some (leads d (pd_of k handler) (Pt handler mtd ip) (cause.Portal d.id))
lead_of k d other = None

-- of two capabilities to one semaphore; where it is shared, if the second was derived from the first, so that the first may take it back: then to a side's own alone
abbrev pub shares_at : Bool → Derivation → Derivation → Option Tie
shares_at false d e = Some (weak d.pd e.pd (cause.Shared d.id e.id))
shares_at true d e = if is_child_of d.id e then Some (strict d.pd e.pd (cause.Shared d.id e.id)) else None

abbrev pub shares_by : (ℕ → Bool) → Kind → Derivation → Derivation → Option Tie
shares_by shared Mem d e = None
shares_by shared Obj d e = if e.target == d.target then shares_at (shared d.target) d e else None

abbrev pub shares : (ℕ → Bool) → Derivation → Derivation → Option Tie
shares shared d e = shares_by shared e.kind d e

abbrev pub shares_all : (ℕ → Bool) → List Derivation → Derivation → Option Object → List Tie
shares_all shared list d (Some Sm) = flat_map (λ (e : Derivation). option_to_list (shares shared d e)) list
shares_all shared list d other = []

-- to the domains of those that wait at what it leads to, unless that is shared
abbrev pub is_at : ℕ → State → Bool
is_at sm (Blocked other) = other == sm
is_at sm other = false

abbrev pub is_blocked_at : ℕ → EcState → Bool
is_blocked_at sm x = is_at sm x.state

abbrev pub waits_at : Derivation → ℕ → ℕ → Option EcState → Option Tie
waits_at d n pd (Some x) = if is_blocked_at d.target x then Some (weak d.pd pd (cause.Waits d.id n)) else None
waits_at d n pd None = None

abbrev pub waits_in : KernelState → Derivation → ℕ × Object → Option Tie
waits_in k d (n, Ec pd cpu kind event) = waits_at d n pd (context_at k n)
waits_in k d (n, other) = None

abbrev pub waits_all : (ℕ → Bool) → KernelState → Derivation → List Tie
waits_all shared k d = if shared d.target then [] else flat_map (λ (e : ℕ × Object). option_to_list (waits_in k d e)) (enumerate_from 0 k.objects)

-- of memory to write, and other memory with a frame of it: what flows from its domain to the other's, or what doesn't
abbrev pub flows_by : (ℕ → ℕ → Bool) → (ℕ → ℕ) → ℕ → ℕ → Bool
flows_by flows label from to = flows (label from) (label to)

abbrev pub passes : Bool → Bool → Bool
passes true flow = flow
passes false flow = not flow

abbrev pub leads_to : Derivation → ℕ → Bool
leads_to d frame = nat_le d.target frame && nat_lt frame (d.target + 2 ^ d.order)

abbrev pub meets : Derivation → Derivation → Bool
meets d e = leads_to d e.target || leads_to e d.target

abbrev pub overlaps_by : Bool → (ℕ → ℕ → Bool) → Kind → Derivation → Derivation → Option Tie
overlaps_by through flows Mem d e = if meets d e && passes through (flows d.pd e.pd) then Some (weak d.pd e.pd (cause.Frames d.id e.id)) else None
overlaps_by through flows Obj d e = None

abbrev pub overlaps : Bool → (ℕ → ℕ → Bool) → Derivation → Derivation → Option Tie
overlaps through flows d e = overlaps_by through flows e.kind d e

abbrev pub overlaps_all : Bool → (ℕ → ℕ → Bool) → List Derivation → Derivation → Bool → List Tie
overlaps_all through flows list d true = flat_map (λ (e : Derivation). option_to_list (overlaps through flows d e)) list
overlaps_all through flows list d false = []

abbrev pub ties_of_kind : (ℕ → Bool) → (ℕ → ℕ → Bool) → KernelState → List Derivation → Derivation → Kind → List Tie
ties_of_kind shared flows k list d Mem = overlaps_all false flows list d (allows d.rights write_right)
ties_of_kind shared flows k list d Obj = option_to_list (lead_of k d (slice_get k.objects d.target)) ++ (shares_all shared list d (slice_get k.objects d.target) ++ waits_all shared k d)

abbrev pub ties_by : (ℕ → Bool) → (ℕ → ℕ → Bool) → KernelState → List Derivation → Derivation → List Tie
ties_by shared flows k list d = ties_of_kind shared flows k list d d.kind

-- BY EXECUTION CONTEXTS

-- the domain of a handler is tied to that of who waits for it: to a side's own alone where that is a handler itself, or came by an exit
abbrev pub served : KernelState → ℕ → ℕ → ℕ → Tie
served k handler n pd = record { from = pd_of k handler; to = pd; strict = is_local_thread k n || came_by_exit k n handler; cause = cause.Serves handler n }

abbrev pub serves_by : KernelState → ℕ → ℕ → Option ℕ → Option Tie
serves_by k n pd (Some handler) = Some (served k handler n pd)
serves_by k n pd None = None

abbrev pub serves_of : KernelState → ℕ → ℕ → State → Option Tie
serves_of k n pd state = serves_by k n pd (edge_of state)

-- the domain of a handler that takes the items of a call, to that of its caller
abbrev pub takes_by : KernelState → ℕ → ℕ → Option (ℕ × Mark) → Option Tie
takes_by k n pd (Some (caller, mark)) = Some (strict pd (pd_of k caller) (cause.Takes n caller))
takes_by k n pd None = None

abbrev pub takes_of : KernelState → ℕ → ℕ → State → Option (ℕ × Mark) → Option Tie
takes_of k n pd (Granting None) caller = takes_by k n pd caller
takes_of k n pd other caller = None

-- the domain of one that gives a first range, to the domain that gets it
abbrev pub gives_of : ℕ → ℕ → State → Option Tie
gives_of n pd (Granting (Some new)) = Some (strict pd new (cause.Gives n))
gives_of n pd other = None

-- the domain of one that waits at a semaphore, to those of all that wait there, unless it is shared
abbrev pub beside_at : ℕ → ℕ → ℕ → ℕ → ℕ → Option EcState → Option Tie
beside_at sm n pd m other (Some y) = if is_blocked_at sm y then Some (weak pd other (cause.Queue n m)) else None
beside_at sm n pd m other None = None

abbrev pub beside_in : KernelState → ℕ → ℕ → ℕ → ℕ × Object → Option Tie
beside_in k sm n pd (m, Ec other cpu kind event) = beside_at sm n pd m other (context_at k m)
beside_in k sm n pd (m, object) = None

abbrev pub queue_of : (ℕ → Bool) → KernelState → ℕ → ℕ → State → List Tie
queue_of shared k n pd (Blocked sm) = if shared sm then [] else flat_map (λ (e : ℕ × Object). option_to_list (beside_in k sm n pd e)) (enumerate_from 0 k.objects)
queue_of shared k n pd other = []

abbrev pub ties_in : (ℕ → Bool) → KernelState → ℕ → ℕ → Option EcState → List Tie
ties_in shared k n pd (Some x) = option_to_list (serves_of k n pd x.state) ++ (option_to_list (takes_of k n pd x.state x.caller) ++ (option_to_list (gives_of n pd x.state) ++ queue_of shared k n pd x.state))
ties_in shared k n pd None = []

abbrev pub ties_at : (ℕ → Bool) → KernelState → ℕ × Object → List Tie
ties_at shared k (n, Ec pd cpu kind event) = ties_in shared k n pd (context_at k n)
ties_at shared k (n, other) = []

-- ALL

unfoldable pub ties : (ℕ → Bool) → (ℕ → ℕ → Bool) → KernelState → List Tie
ties shared flows k = flat_map (ties_by shared flows k k.delegations.list) k.delegations.list ++ flat_map (ties_at shared k) (enumerate_from 0 k.objects)

-- and the memory that flows: no ties
abbrev pub flowing_of_kind : (ℕ → ℕ → Bool) → List Derivation → Derivation → Kind → List Tie
flowing_of_kind flows list d Mem = overlaps_all true flows list d (allows d.rights write_right)
flowing_of_kind flows list d Obj = []

abbrev pub flowing_by : (ℕ → ℕ → Bool) → List Derivation → Derivation → List Tie
flowing_by flows list d = flowing_of_kind flows list d d.kind

unfoldable pub flowing : (ℕ → ℕ → Bool) → KernelState → List Tie
flowing flows k = flat_map (flowing_by flows k.delegations.list) k.delegations.list

-- MEMORY THAT TWO SIDES READ

-- a domain of a side has it, and may not write it
abbrev pub is_read : (ℕ → ℕ) → Derivation → Bool
is_read label d = not (label d.pd == 0) && (is_memory d.kind && not (allows d.rights write_right))

-- and so does one of another side, with a frame in common: each pair once, by its numbers. These are no ties, either
abbrev pub are_read : (ℕ → ℕ) → Derivation → Derivation → Bool
are_read label d e = is_read label e && (not (label e.pd == label d.pd) && (nat_le d.id e.id && meets d e))

abbrev pub both_read : (ℕ → ℕ) → Derivation → Derivation → Option Tie
both_read label d e = if are_read label d e then Some (weak d.pd e.pd (cause.Frames d.id e.id)) else None

abbrev pub reading_by : (ℕ → ℕ) → List Derivation → Derivation → List Tie
reading_by label list d = if is_read label d then flat_map (λ (e : Derivation). option_to_list (both_read label d e)) list else []

unfoldable pub reading : (ℕ → ℕ) → KernelState → List Tie
reading label k = flat_map (reading_by label k.delegations.list) k.delegations.list
