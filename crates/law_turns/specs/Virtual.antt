-- Virtual CPUs: each runs, raises exits and waits for their replies, and does nothing else.
use Rattle.std.specs.Prelude.{◌≡◌, ℕ, Bool, true, false, Some}
use Rattle.nova_model.specs.Capabilities.{is_vcpu}
use Rattle.nova_model.specs.Edges.{caller_in}
use Rattle.nova_model.specs.State.{KernelState, context, is_thread}
use Rattle.nova_model.specs.declared.context.Mark.TheVariants as mark
use Rattle.nova_model.specs.declared.context.State.{State}
use Rattle.nova_model.specs.declared.context.State.TheVariants.{Fresh, Ready, Calling, Exiting, Sending, Dead}
use Rattle.law_turns.specs.Tables.{IsOf}

-- a state that a virtual CPU comes to
abbrev pub is_guest_state : State → Bool
is_guest_state Fresh = true
is_guest_state Ready = true
is_guest_state (Exiting reason q0 q1) = true
is_guest_state (Sending reason q0 q1 handler) = true
is_guest_state (Calling handler) = true
is_guest_state Dead = true
is_guest_state other = false

-- virtual CPUs are in such states; and a caller that came by a call is a thread, so that a virtual CPU waits for the replies to its exits alone
pub record AreGuests (k : KernelState) : Type 0 where
  pub states : (g : ℕ) → IsOf k.objects is_vcpu g → is_guest_state (context k g).state ≡ true
  pub callers : (handler caller : ℕ) → caller_in k.contexts handler ≡ Some (caller, mark.Call) → is_thread k caller ≡ true
