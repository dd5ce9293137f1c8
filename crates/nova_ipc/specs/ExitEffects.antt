-- What exits and the replies to them make of the table of execution contexts.
use Rattle.std.specs.Prelude.{ℕ, false, List, Option, Some, None}
use Rattle.nova_model.specs.Deeds.{resumed}
use Rattle.nova_model.specs.Edges.{caller_in}
use Rattle.nova_model.specs.State.{Contexts}
use Rattle.nova_model.specs.declared.context.Mark.{Mark}
use Rattle.nova_model.specs.declared.context.Mark.TheVariants.{Exit}
use Rattle.nova_model.specs.declared.context.State.TheVariants.{Dead, Exiting, Sending}
use Rattle.nova_ec.specs.Changes.{with_reply, with_sent}
use Rattle.nova_ec.specs.Tables.{turned_to}

-- an exit is raised; the registers stay
abbrev pub raised_among : Contexts → ℕ → ℕ → ℕ → ℕ → Contexts
raised_among cs ec reason q0 q1 = turned_to cs ec (Exiting reason q0 q1)

-- an exit found its handler busy, and waits for it
abbrev pub waiting_among : Contexts → ℕ → ℕ → ℕ → ℕ → ℕ → Contexts
waiting_among cs ec handler reason q0 q1 = turned_to cs ec (Sending reason q0 q1 handler)

-- an exit is sent: the context that raised it waits for the handler, and the handler serves it
abbrev pub exit_sent_among : Contexts → ℕ → ℕ → ℕ → ℕ → Contexts
exit_sent_among cs ec handler ip identifier = with_sent cs ec handler Exit ip identifier false

-- it ends
abbrev pub dead_among : Contexts → ℕ → Contexts
dead_among cs ec = turned_to cs ec Dead

-- a reply to an exit is complete: the handler is parked, and its caller goes on with what the message writes back
abbrev pub written_back_among : Contexts → ℕ → ℕ → List ℕ → Contexts
written_back_among cs handler caller m = with_reply cs handler caller (λ x. resumed x Exit m)

-- the caller of a handler that serves an exit
abbrev pub caller_by_exit : Option (ℕ × Mark) → Option ℕ
caller_by_exit (Some (caller, Exit)) = Some caller
caller_by_exit other = None

abbrev pub served_exit : Contexts → ℕ → Option ℕ
served_exit cs handler = caller_by_exit (caller_in cs handler)

abbrev pub exit_replied_among : Contexts → ℕ → List ℕ → Option ℕ → Contexts
exit_replied_among cs handler m (Some caller) = written_back_among cs handler caller m
exit_replied_among cs handler m None = cs
