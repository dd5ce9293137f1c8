-- Which parts of the premises fail, of each capability, object and alarm of a state. `S` says which domains are a side's, `T` which are the others', `P` which objects its part has, and `C` which processors are its own.
use Rattle.std.specs.Prelude.{ℕ, ◌&&◌, ◌||◌, Bool, true, false, not, List, [], ◌∷◌, Option, Some, None, option_and_then}
use Rattle.std.specs.Option.{option_or}
use Rattle.std.specs.List.{enumerate_from}
use Rattle.nova_objects.specs.declared.object.Object.{Object}
use Rattle.nova_objects.specs.declared.object.Object.TheVariants.{Ec, Sc, Pt, Sm}
use Rattle.nova_model.specs.Edges.{edge_of}
use Rattle.nova_model.specs.State.{KernelState, context_at}
use Rattle.nova_model.specs.declared.context.EcState.{EcState}
use Rattle.nova_model.specs.declared.delegation.Derivation.{Derivation}
use Rattle.nova_model.specs.declared.times.Alarm.{Alarm}
use Rattle.nova_objects.specs.ObjectTables.{is_domain}
use Rattle.nova_kernel.specs.Begun.{sources_of}
use Rattle.nova_flowing.specs.Tests.{blocked_at, caller_of, gives_without, holds, is_awaited_without, is_creator, is_derived, is_foreign, is_member, is_of, is_outside, is_owned, is_shared, is_without, is_written, stirs, waits_at_theirs, waits_beside, waits_from_without}
use Rattle.nova_flowing.specs.declared.leak.Leak.{Leak}
use Rattle.nova_flowing.specs.declared.leak.Field.{Field}
use Rattle.nova_flowing.specs.declared.leak.Field.TheVariants as field
use Rattle.nova_flowing.specs.declared.leak.Place.{Place}
use Rattle.nova_flowing.specs.declared.leak.Place.TheVariants.{Capability, Object as AtObject, Context, Source}
use Rattle.nova_flowing.specs.declared.leak.Premise.{Premise}
use Rattle.nova_flowing.specs.declared.leak.Premise.TheVariants.{Apart, Side, Guarded, Divided}

abbrev pub when : Bool → Field → Place → Option Leak
when true field place = Some (record { field = field; place = place })
when false field place = None

-- BY CAPABILITIES

abbrev pub at_cap : Derivation → Place
at_cap d = Capability d.id d.target

abbrev pub leak_by : KernelState → (ℕ → Bool) → (ℕ → Bool) → (ℕ → Bool) → Premise → Derivation → Option Leak
leak_by k S T P Apart d = option_or (when (is_foreign k S d || is_foreign k T d) field.Capabilities (at_cap d)) (when (is_shared k.delegations.list S T d) field.Objects (at_cap d))
leak_by k S T P Side d = when (is_outside S P d) field.Holds (at_cap d)
leak_by k S T P Guarded d = option_or (when (is_derived k.delegations.list S T d) field.Lines (at_cap d)) (when (is_written k.delegations.list S T d) field.Memory (at_cap d))
leak_by k S T P Divided d = when (is_creator k T d) field.Creates (at_cap d)

-- BY OBJECTS

abbrev pub at_context : ℕ → EcState → Place
at_context n x = Context n x.cpu

abbrev pub queue_in : KernelState → (ℕ → Bool) → (ℕ → Bool) → ℕ → EcState → Option Leak
queue_in k S T n x =
    option_or (when (waits_at_theirs k S T n x.state || waits_at_theirs k T S n x.state) field.Waits (at_context n x)) (when (waits_beside k S T n x.state) field.Queues (at_context n x))

abbrev pub rest_in : KernelState → (ℕ → Bool) → (ℕ → Bool) → ℕ → EcState → Option Leak
rest_in k S T n x = option_or (when (stirs k S T n x.state) field.Rest (at_context n x)) (queue_in k S T n x)

abbrev pub apart_in : KernelState → (ℕ → Bool) → (ℕ → Bool) → ℕ → EcState → Option Leak
apart_in k S T n x =
    option_or (when (waits_from_without k S n x.state || waits_from_without k T n x.state) field.Waiters (at_context n x))
    (option_or (when (gives_without k S n x.state || gives_without k T n x.state) field.Firsts (at_context n x)) (rest_in k S T n x))

abbrev pub apart_at : KernelState → (ℕ → Bool) → (ℕ → Bool) → ℕ → Object → Option Leak
apart_at k S T n o =
    option_or (when ((S n || T n) && not (is_domain (Some o))) field.There (AtObject n))
    (option_or (when (S n && T n) field.Disjoint (AtObject n)) (option_and_then (apart_in k S T n) (context_at k n)))

abbrev pub side_in : (ℕ → Bool) → ℕ → EcState → Option Leak
side_in P n x =
    option_or (when (P n && is_without P (edge_of x.state)) field.Edges (at_context n x))
    (option_or (when (P n && is_without P (caller_of x.caller)) field.Callers (at_context n x))
    (when (P n && is_without P (blocked_at x.state)) field.Blocked (at_context n x)))

abbrev pub handler_of : Object → Option ℕ
handler_of (Pt handler mtd ip) = Some handler
handler_of other = None

abbrev pub awaited_at : KernelState → (ℕ → Bool) → ℕ → Option Leak
awaited_at k P n = option_or (when (is_awaited_without k P n) field.Queued (AtObject n)) (option_and_then (side_in P n) (context_at k n))

abbrev pub side_at : KernelState → (ℕ → Bool) → (ℕ → Bool) → ℕ → Object → Option Leak
side_at k S P n o =
    option_or (when (P n && is_without P (handler_of o)) field.Handlers (AtObject n))
    (option_or (when (is_of S (Some o) && not (P n)) field.Members (AtObject n)) (awaited_at k P n))

abbrev pub is_semaphore : Object → Bool
is_semaphore Sm = true
is_semaphore other = false

abbrev pub guarded_at : KernelState → (ℕ → Bool) → (ℕ → Bool) → (ℕ → Bool) → ℕ → Object → Option Leak
guarded_at k S T P n o =
    option_or (when (P n && not (is_owned k S n (Some o))) field.Owned (AtObject n))
    (when (P n && (is_semaphore o && holds k.delegations.list T n)) field.Semaphores (AtObject n))

abbrev pub divided_at : KernelState → (ℕ → Bool) → (ℕ → Bool) → (ℕ → Bool) → (ℕ → Bool) → ℕ → Object → Option Leak
divided_at k S T P C n (Ec pd cpu kind event) =
    option_or (when (S pd && not (C cpu)) field.Contexts (Context n cpu)) (when (T pd && C cpu) field.Others (Context n cpu))
divided_at k S T P C n (Sc donor cpu priority quantum) = when (is_member k S donor && not (P n)) field.Schedules (AtObject n)
divided_at k S T P C n other = None

abbrev pub leak_at : KernelState → (ℕ → Bool) → (ℕ → Bool) → (ℕ → Bool) → (ℕ → Bool) → Premise → ℕ × Object → Option Leak
leak_at k S T P C Apart (n, o) = apart_at k S T n o
leak_at k S T P C Side (n, o) = side_at k S P n o
leak_at k S T P C Guarded (n, o) = guarded_at k S T P n o
leak_at k S T P C Divided (n, o) = divided_at k S T P C n o

-- BY ALARMS

abbrev pub at_source : ℕ → Alarm → Place
at_source n a = Source n a.cpu a.sm

abbrev pub leak_of : (ℕ → Bool) → (ℕ → Bool) → Premise → ℕ × Alarm → Option Leak
leak_of P C Divided (n, a) = when (P a.sm && not (C a.cpu)) field.Rings (at_source n a)
leak_of P C other (n, a) = None

-- THE FIRST OF A PREMISE

abbrev pub first_some : {X Y : Type 0} → (X → Option Y) → List X → Option Y
first_some f [] = None
first_some f (x ∷ xs) = option_or (f x) (first_some f xs)

abbrev pub leak_in : KernelState → (ℕ → Bool) → (ℕ → Bool) → (ℕ → Bool) → (ℕ → Bool) → Premise → Option Leak
leak_in k S T P C p =
    option_or (first_some (leak_by k S T P p) k.delegations.list)
    (option_or (first_some (leak_at k S T P C p) (enumerate_from 0 k.objects)) (first_some (leak_of P C p) (enumerate_from 0 (sources_of k))))
