-- What the answers to a call say of the edge that is to come.
use Rattle.std.proofs.Common.{◌≡◌, ℕ, IsSome}
use Rattle.std.specs.Prelude.{Bool, false}
use Rattle.nova_model.specs.State.{Contexts, ec_in}
use Rattle.nova_model.specs.Edges.{cpu_in, IsNewEdge}
use Rattle.nova_model.specs.Calls.{admitted}
use Rattle.nova_model.specs.declared.admit.Admit.TheVariants as answer
use Rattle.nova_model.specs.declared.context.State.{State}
use Rattle.nova_ec.specs.Handlers.{MayReply}
use Rattle.nova_ec.specs.Tables.{turned_to}
use Rattle.nova_ec.proofs.Admitted.{call_helped, call_sent}
use Rattle.nova_ec.proofs.Handlers as handlers

pub may_reply : (cs : Contexts) (e h : ℕ) (flag : Bool) → admitted cs e h flag ≡ answer.Send → MayReply cs e h
may_reply cs e h flag is = ((call_sent cs e h flag).0 is).0

pub help_edge : (cs : Contexts) (e h : ℕ) (flag : Bool) → admitted cs e h flag ≡ answer.Help → IsNewEdge cs e h × IsSome (ec_in cs e)
help_edge cs e h flag is = let waits = handlers.may_wait cs e h ((call_helped cs e h flag).0 is).0 in (waits.0, waits.1)

pub send_edge : (cs : Contexts) (e h : ℕ) (flag : Bool) → admitted cs e h flag ≡ answer.Send → IsNewEdge cs e h × IsSome (ec_in cs e) × IsSome (ec_in cs h)
send_edge cs e h flag is = handlers.may_wait cs e h (may_reply cs e h flag is)

-- the handler is still there, and the caller on its processor
pub handler_stays : (cs : Contexts) (e h : ℕ) (state : State) → admitted cs e h false ≡ answer.Send → IsSome (ec_in (turned_to cs e state) h)
handler_stays cs e h state is = handlers.handler_stays cs e h state (may_reply cs e h false is)

pub may_serve : (cs : Contexts) (e h : ℕ) (state : State) → admitted cs e h false ≡ answer.Send → cpu_in (turned_to cs e state) e ≡ cpu_in (turned_to cs e state) h
may_serve cs e h state is = handlers.may_serve cs e h state (may_reply cs e h false is)
