-- The contexts that may wait for a handler.
use Rattle.std.specs.Prelude.{ℕ, ◌≡◌, ◌==◌, List, Option, Some, None, IfSome, if◌then◌else◌, slice_get, slice_set}
use Rattle.nova_model.specs.Edges.{edge}
use Rattle.nova_model.specs.State.{Contexts}
use Rattle.nova_ec.specs.declared.waiters.Waiters.{Waiters}
use Rattle.nova_ec.specs.declared.waiters.Waiters.TheVariants.{Nobody, Only, Several}

-- it is one of these
abbrev pub IsAmong : ℕ → Waiters → Type 0
IsAmong ec Nobody = ⊥
IsAmong ec (Only other) = other ≡ ec
IsAmong ec Several = Unit {0}

-- each context that waits for a handler is among those that are kept for it
abbrev pub AreKnown : Contexts → List Waiters → Type 0
AreKnown cs all = (z h : ℕ) → edge cs z ≡ Some h → IfSome (slice_get all h) (IsAmong z)

-- another context waits
abbrev pub with_waiter : ℕ → Waiters → Waiters
with_waiter ec Nobody = Only ec
with_waiter ec (Only other) = if other == ec then Only other else Several
with_waiter ec Several = Several

-- a context waits no longer
abbrev pub without_waiter : ℕ → Waiters → Waiters
without_waiter ec Nobody = Nobody
without_waiter ec (Only other) = if other == ec then Nobody else Only other
without_waiter ec Several = Several

-- those of a handler change, where it has an entry
abbrev pub changed_by : (Waiters → Waiters) → ℕ → List Waiters → Option Waiters → List Waiters
changed_by f h all (Some these) = slice_set all h (f these)
changed_by f h all None = all

abbrev pub changed : (Waiters → Waiters) → Option ℕ → List Waiters → List Waiters
changed f (Some h) all = changed_by f h all (slice_get all h)
changed f None all = all
