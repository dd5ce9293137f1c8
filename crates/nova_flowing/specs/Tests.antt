-- What premises ask of one capability or one execution context, as tests. `S` says which domains are a side's, `T` which are the others'.
use Rattle.std.specs.Prelude.{ℕ, ◌==◌, ◌&&◌, ◌||◌, Bool, true, false, not, List, slice_get, Option, Some, None}
use Rattle.std.specs.List.{enumerate_from, list_any}
use Rattle.nova_objects.specs.declared.object.Object.{Object}
use Rattle.nova_objects.specs.declared.object.Object.TheVariants.{Pd, Ec, Sc, Pt}
use Rattle.nova_range.specs.Rights.{allows, write_right}
use Rattle.nova_model.specs.Capabilities.{create_right}
use Rattle.nova_model.specs.Delegations.{is_memory}
use Rattle.nova_model.specs.Edges.{edge_of}
use Rattle.nova_model.specs.Lines.{line}
use Rattle.nova_model.specs.State.{KernelState, context_at}
use Rattle.nova_model.specs.declared.context.EcState.{EcState}
use Rattle.nova_model.specs.declared.context.Mark.{Mark}
use Rattle.nova_model.specs.declared.context.State.{State}
use Rattle.nova_model.specs.declared.context.State.TheVariants.{Blocked, Dead, Granting, Parked}
use Rattle.nova_model.specs.declared.delegation.Derivation.{Derivation}
use Rattle.law_sides.specs.Resting.{is_unraised, is_unrung}
use Rattle.law_sides.specs.Tied.{meets}
use Rattle.nova_objects.specs.ObjectTables.{is_domain}

-- what a table has of a number: false beyond it
abbrev pub or_false : Option Bool → Bool
or_false (Some b) = b
or_false None = false

abbrev pub is_in : List Bool → ℕ → Bool
is_in table n = or_false (slice_get table n)

-- WHOSE AN OBJECT IS

-- an execution context of some domains
abbrev pub is_of : (ℕ → Bool) → Option Object → Bool
is_of S (Some (Ec pd cpu kind event)) = S pd
is_of S other = false

abbrev pub is_member : KernelState → (ℕ → Bool) → ℕ → Bool
is_member k S n = is_of S (slice_get k.objects n)

-- what is a set's own
abbrev pub is_owned : KernelState → (ℕ → Bool) → ℕ → Option Object → Bool
is_owned k S n (Some Pd) = S n
is_owned k S n (Some (Ec pd cpu kind event)) = S pd
is_owned k S n (Some (Sc donor cpu priority quantum)) = is_member k S donor
is_owned k S n (Some (Pt handler mtd ip)) = is_member k S handler
is_owned k S n other = true

-- CAPABILITIES

-- of objects; one to the object of this number
abbrev pub is_held : (ℕ → Bool) → Derivation → Bool
is_held S d = S d.pd && not (is_memory d.kind)

abbrev pub leads_there : (ℕ → Bool) → ℕ → Derivation → Bool
leads_there S object d = is_held S d && (d.target == object)

abbrev pub holds : List Derivation → (ℕ → Bool) → ℕ → Bool
holds list S object = list_any (leads_there S object) list

-- one that leads to what isn't the set's own; to what the others hold, too; out of the side's part; to a domain, to create in it
abbrev pub is_foreign : KernelState → (ℕ → Bool) → Derivation → Bool
is_foreign k S d = is_held S d && not (is_owned k S d.target (slice_get k.objects d.target))

abbrev pub is_shared : List Derivation → (ℕ → Bool) → (ℕ → Bool) → Derivation → Bool
is_shared list S T d = is_held S d && holds list T d.target

abbrev pub is_outside : (ℕ → Bool) → (ℕ → Bool) → Derivation → Bool
is_outside S P d = is_held S d && not (P d.target)

abbrev pub is_creator : KernelState → (ℕ → Bool) → Derivation → Bool
is_creator k T d = is_held T d && (allows d.rights create_right && is_domain (slice_get k.objects d.target))

-- it comes of a range of the others'
abbrev pub is_derived : List Derivation → (ℕ → Bool) → (ℕ → Bool) → Derivation → Bool
is_derived list S T d = S d.pd && list_any (λ (a : Derivation). T a.pd) (line list d)

-- others write to a frame of it
abbrev pub writes_to : (ℕ → Bool) → Derivation → Derivation → Bool
writes_to T d e = (T e.pd && is_memory e.kind) && (allows e.rights write_right && meets d e)

abbrev pub is_written : List Derivation → (ℕ → Bool) → (ℕ → Bool) → Derivation → Bool
is_written list S T d = (S d.pd && is_memory d.kind) && list_any (writes_to T d) list

-- EXECUTION CONTEXTS

-- the semaphore at which one is blocked, and the domain to which one gives a first range
abbrev pub blocked_at : State → Option ℕ
blocked_at (Blocked sm) = Some sm
blocked_at other = None

abbrev pub first_of : State → Option ℕ
first_of (Granting new) = new
first_of other = None

-- a number that is there passes a test
abbrev pub is_some_with : (ℕ → Bool) → Option ℕ → Bool
is_some_with p None = false
is_some_with p (Some n) = p n

-- one waits for a handler of the set, and isn't of it; one of the set gives a first range to another domain
abbrev pub waits_from_without : KernelState → (ℕ → Bool) → ℕ → State → Bool
waits_from_without k S n state = not (is_member k S n) && is_some_with (is_member k S) (edge_of state)

abbrev pub gives_without : KernelState → (ℕ → Bool) → ℕ → State → Bool
gives_without k S n state = is_member k S n && is_some_with (λ (new : ℕ). not (S new)) (first_of state)

-- it does nothing, and but for a deadline of its nothing has it do something: it is parked or dead, or blocked at a semaphore that neither set may raise and no alarm rings
abbrev pub is_either : (ℕ → Bool) → (ℕ → Bool) → ℕ → Bool
is_either S T n = S n || T n

abbrev pub is_left_alone : KernelState → (ℕ → Bool) → (ℕ → Bool) → ℕ → Bool
is_left_alone k S T sm = is_unraised (is_either S T) k.delegations.list sm && is_unrung k.times sm

abbrev pub is_quiet : KernelState → (ℕ → Bool) → (ℕ → Bool) → State → Bool
is_quiet k S T Parked = true
is_quiet k S T Dead = true
is_quiet k S T (Blocked sm) = is_left_alone k S T sm
is_quiet k S T other = false

abbrev pub is_of_neither : KernelState → (ℕ → Bool) → (ℕ → Bool) → ℕ → Bool
is_of_neither k S T n = not (is_member k S n) && not (is_member k T n)

abbrev pub stirs : KernelState → (ℕ → Bool) → (ℕ → Bool) → ℕ → State → Bool
stirs k S T n state = is_of_neither k S T n && not (is_quiet k S T state)

-- one of S waits at a semaphore that T holds
abbrev pub waits_at_theirs : KernelState → (ℕ → Bool) → (ℕ → Bool) → ℕ → State → Bool
waits_at_theirs k S T n state = is_member k S n && is_some_with (holds k.delegations.list T) (blocked_at state)

-- an execution context, of a number, is blocked at the semaphore
abbrev pub is_blocked_at : ℕ → Option EcState → Bool
is_blocked_at sm (Some x) = is_some_with (λ (other : ℕ). other == sm) (blocked_at x.state)
is_blocked_at sm None = false

abbrev pub queues_of : KernelState → (ℕ → Bool) → ℕ → ℕ × Object → Bool
queues_of k T sm (m, o) = is_of T (Some o) && is_blocked_at sm (context_at k m)

-- one of S waits where one of T does
abbrev pub waits_beside : KernelState → (ℕ → Bool) → (ℕ → Bool) → ℕ → State → Bool
waits_beside k S T n state = is_member k S n && is_some_with (λ (sm : ℕ). list_any (queues_of k T sm) (enumerate_from 0 k.objects)) (blocked_at state)

-- one that isn't of the side's part is blocked at the object of this number
abbrev pub queues_without : KernelState → (ℕ → Bool) → ℕ → ℕ × Object → Bool
queues_without k P sm (m, Ec pd cpu kind event) = not (P m) && is_blocked_at sm (context_at k m)
queues_without k P sm (m, other) = false

abbrev pub is_awaited_without : KernelState → (ℕ → Bool) → ℕ → Bool
is_awaited_without k P n = P n && list_any (queues_without k P n) (enumerate_from 0 k.objects)

-- of one of the side's part: its handler, its caller or its semaphore isn't
abbrev pub is_without : (ℕ → Bool) → Option ℕ → Bool
is_without P o = is_some_with (λ (n : ℕ). not (P n)) o

abbrev pub caller_of : Option (ℕ × Mark) → Option ℕ
caller_of (Some (caller, mark)) = Some caller
caller_of None = None
