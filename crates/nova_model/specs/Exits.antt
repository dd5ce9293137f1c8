-- Exits: an exit that was raised is looked up, and is sent, waits, or ends the context that raised it. (NOVA specification, exceptions and their
-- portals; reasons and words of the message are this project's.)
use Rattle.std.specs.Prelude.{ℕ, Option, Some, None, Result, Ok, Err}
use Rattle.nova_model.specs.Numbers.{EcId, PtId}
use Rattle.rv_model.specs.Words.{plus}
use Rattle.nova_range.specs.declared.status.Status.{Status}
use Rattle.nova_model.specs.Calls.{exit_admitted}
use Rattle.nova_model.specs.Capabilities.{event_right, is_pt, named}
use Rattle.nova_model.specs.Portals.{descriptor, handler_of, identifier, ip_of}
use Rattle.nova_model.specs.State.{KernelState, event_base, pd_of}
use Rattle.nova_model.specs.declared.admit.ExitAdmit.{ExitAdmit}
use Rattle.nova_model.specs.declared.admit.ExitAdmit.TheVariants as exit
use Rattle.nova_model.specs.declared.context.State.{State}
use Rattle.nova_model.specs.declared.context.State.TheVariants.{Exiting, Sending}
use Rattle.nova_model.specs.declared.deed.Deed.{Deed}
use Rattle.nova_model.specs.declared.deed.Deed.TheVariants.{Dies, Waits, Sends}

-- the exit of an execution context in a state in which it is raised and not sent: reason and two qualifications
abbrev pub raised_exit : State → Option (ℕ × ℕ × ℕ)
raised_exit (Exiting reason q0 q1) = Some (reason, q0, q1)
raised_exit (Sending reason q0 q1 handler) = Some (reason, q0, q1)
raised_exit other = None

-- the portal for an exit: at the selector event base + reason of its own protection domain, with the event right
abbrev pub exit_portal : KernelState → EcId → ℕ → Result PtId Status
exit_portal k ec reason = named k (pd_of k ec) is_pt event_right (plus (event_base k ec) reason)

-- what comes of the exit at that portal's handler
abbrev pub exit_to : KernelState → PtId → ℕ → ℕ → ℕ → ExitAdmit → Deed
exit_to k pt reason q0 q1 exit.Dies = Dies reason q0
exit_to k pt reason q0 q1 exit.Waits = Waits (handler_of k pt) reason q0 q1
exit_to k pt reason q0 q1 exit.Sends = Sends (handler_of k pt) (ip_of k pt) (identifier k pt) (descriptor k pt) reason q0 q1

abbrev pub exit_at : KernelState → EcId → ℕ → ℕ → ℕ → Result PtId Status → Deed
exit_at k ec reason q0 q1 (Err status) = Dies reason q0
exit_at k ec reason q0 q1 (Ok pt) = exit_to k pt reason q0 q1 (exit_admitted k.contexts ec (handler_of k pt))

-- it dies where there is no such portal
abbrev pub exits : KernelState → EcId → ℕ → ℕ → ℕ → Deed
exits k ec reason q0 q1 = exit_at k ec reason q0 q1 (exit_portal k ec reason)
