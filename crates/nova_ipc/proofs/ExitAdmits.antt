-- What the answers to an exit say of the edge that is to come.
use Rattle.std.proofs.Common.{◌≡◌, ℕ, IsSome}
use Rattle.nova_model.specs.State.{Contexts, ec_in}
use Rattle.nova_model.specs.Edges.{cpu_in, IsNewEdge}
use Rattle.nova_model.specs.Calls.{exit_admitted}
use Rattle.nova_model.specs.declared.admit.ExitAdmit.TheVariants as answer
use Rattle.nova_model.specs.declared.context.State.{State}
use Rattle.nova_ec.specs.Handlers.{MayReply}
use Rattle.nova_ec.specs.Tables.{turned_to}
use Rattle.nova_ec.proofs.Admitted.{exit_sent, exit_waits}
use Rattle.nova_ec.proofs.Handlers as handlers

pub may_reply : (cs : Contexts) (e h : ℕ) → exit_admitted cs e h ≡ answer.Sends → MayReply cs e h
may_reply cs e h is = ((exit_sent cs e h).0 is).0

pub wait_edge : (cs : Contexts) (e h : ℕ) → exit_admitted cs e h ≡ answer.Waits → IsNewEdge cs e h × IsSome (ec_in cs e)
wait_edge cs e h is = let waits = handlers.may_wait cs e h ((exit_waits cs e h).0 is).0 in (waits.0, waits.1)

pub send_edge : (cs : Contexts) (e h : ℕ) → exit_admitted cs e h ≡ answer.Sends → IsNewEdge cs e h × IsSome (ec_in cs e) × IsSome (ec_in cs h)
send_edge cs e h is = handlers.may_wait cs e h (may_reply cs e h is)

-- the handler is still there, and the context that raised the exit on its processor
pub handler_stays : (cs : Contexts) (e h : ℕ) (state : State) → exit_admitted cs e h ≡ answer.Sends → IsSome (ec_in (turned_to cs e state) h)
handler_stays cs e h state is = handlers.handler_stays cs e h state (may_reply cs e h is)

pub may_serve : (cs : Contexts) (e h : ℕ) (state : State) → exit_admitted cs e h ≡ answer.Sends → cpu_in (turned_to cs e state) e ≡ cpu_in (turned_to cs e state) h
may_serve cs e h state is = handlers.may_serve cs e h state (may_reply cs e h is)
