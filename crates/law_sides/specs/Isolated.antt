-- The isolation of sides in one state: what the policy of sides asks for, and besides no power over what is trusted, no exit of what is trusted to a side's handler, and no frame that one side may write and another reaches, unless the first flows to the second.
use Rattle.std.specs.Prelude.{◌≡◌, ◌≢◌, ◌⊎◌, ◌==◌, ◌||◌, ℕ, Bool, true, false, Contains, slice_get, Option, Some, None}
use Rattle.nova_objects.specs.declared.object.Object.{Object}
use Rattle.nova_objects.specs.declared.object.Object.TheVariants.{Pd, Ec, Sc, Pt, Sm}
use Rattle.nova_range.specs.Rights.{allows, write_right}
use Rattle.nova_range.specs.declared.range.Kind.TheVariants.{Obj}
use Rattle.nova_range.specs.declared.rights.Rights.{Rights}
use Rattle.nova_model.specs.Capabilities.{bind_portal_right, bind_scheduling_right, control_right, create_right}
use Rattle.nova_model.specs.Delegations.{is_child_of}
use Rattle.nova_model.specs.Edges.{edge}
use Rattle.nova_model.specs.State.{KernelState, context, pd_of}
use Rattle.nova_model.specs.declared.context.Mark.{Mark}
use Rattle.nova_model.specs.declared.context.Mark.TheVariants.{Call, Exit}
use Rattle.nova_model.specs.declared.context.State.{State}
use Rattle.nova_model.specs.declared.context.State.TheVariants.{Sending}
use Rattle.nova_model.specs.declared.delegation.Derivation.{Derivation}
use Rattle.law_integrity.specs.Confined.{IsOwned, Reach, ReachAny}
use Rattle.law_integrity.specs.Trusted.{IsWithinPolicy, Labelled}

-- these rights command the object: to make objects in a protection domain; to control an execution context, a scheduling context or a portal; or to bind a scheduling context or a portal to an
-- execution context. To call a portal, to send exits to it, and to raise or lower a semaphore commands nothing.
abbrev pub commands : Rights → Object → Bool
commands rights Pd = allows rights create_right
commands rights (Ec pd cpu kind event) = allows rights control_right || (allows rights bind_scheduling_right || allows rights bind_portal_right)
commands rights (Sc ec cpu priority quantum) = allows rights control_right
commands rights (Pt ec mtd ip) = allows rights control_right
commands rights Sm = false

abbrev pub commands_any : Rights → Option Object → Bool
commands_any rights (Some object) = commands rights object
commands_any rights None = false

-- its exit found the handler busy; its exit is what the handler serves
abbrev pub is_sending : State → Bool
is_sending (Sending reason q0 q1 handler) = true
is_sending other = false

abbrev pub is_exit_of : ℕ → Option (ℕ × Mark) → Bool
is_exit_of waiter (Some (caller, Exit)) = caller == waiter
is_exit_of waiter (Some (caller, Call)) = false
is_exit_of waiter None = false

-- who waits for the handler came by an exit: the reply may write all its registers and its pc
abbrev pub came_by_exit : KernelState → ℕ → ℕ → Bool
came_by_exit k waiter handler = is_sending (context k waiter).state || is_exit_of waiter (context k handler).caller

-- what a side commands is its own
abbrev pub CommandOwn : KernelState → (ℕ → ℕ) → Type 0
CommandOwn k label =
    (d : Derivation) → Contains k.delegations.list d → d.kind ≡ Obj → label d.pd ≢ 0 → commands_any d.rights (slice_get k.objects d.target) ≡ true →
    IsOwned k (Labelled label (label d.pd)) d.target (slice_get k.objects d.target)

-- What was derived from a side's capability to a shared semaphore is that side's: no other side could take it back, trusted ancestors could.
abbrev pub StayOwn : (ℕ → Bool) → KernelState → (ℕ → ℕ) → Type 0
StayOwn shared k label =
    (d p : Derivation) → Contains k.delegations.list d → Contains k.delegations.list p → d.kind ≡ Obj → p.kind ≡ Obj → slice_get k.objects p.target ≡ Some Sm → d.target ≡ p.target →
    shared p.target ≡ true → is_child_of p.id d ≡ true → label p.pd ≢ 0 → label d.pd ≡ label p.pd

-- Labels are within the policy of sides, but for semaphores that are shared; what a side commands is its own; who waits for a side's handler by an exit is of that side; a frame that a side may write no other side
-- reaches, by whatever right, unless the first flows to it; and no side gave another a shared semaphore. Flows are one-way: from a source, which may write memory, to a sink, which reaches it, each a side by its
-- label. They are no order: what flows to a second side, and from that to a third, doesn't flow to the third by that.
pub record AreIsolated (shared : ℕ → Bool) (flows : ℕ → ℕ → Bool) (k : KernelState) (label : ℕ → ℕ) : Type 0 where
  pub policy : IsWithinPolicy shared k label
  pub powers : CommandOwn k label
  pub exits : (waiter handler : ℕ) → edge k.contexts waiter ≡ Some handler → came_by_exit k waiter handler ≡ true → label (pd_of k handler) ≢ 0 → label (pd_of k waiter) ≡ label (pd_of k handler)
  pub frames : (side other frame : ℕ) → side ≢ 0 → other ≢ 0 → Reach k (Labelled label side) write_right frame → ReachAny k (Labelled label other) frame → (other ≡ side) ⊎ (flows side other ≡ true)
  pub parents : StayOwn shared k label
