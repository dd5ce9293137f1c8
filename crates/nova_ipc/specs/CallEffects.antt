-- What calls and replies make of the table of execution contexts.
use Rattle.std.specs.Prelude.{ℕ, Bool, Option, Some, None}
use Rattle.nova_range.specs.declared.status.Status.TheVariants.{Success, Aborted}
use Rattle.nova_model.specs.Deeds.{answered}
use Rattle.nova_model.specs.Edges.{caller_in}
use Rattle.nova_model.specs.State.{Contexts, ec_of, with_ec}
use Rattle.nova_model.specs.declared.context.Mark.{Mark}
use Rattle.nova_model.specs.declared.context.Mark.TheVariants.{Call}
use Rattle.nova_model.specs.declared.context.State.TheVariants.{Helping}
use Rattle.nova_ec.specs.Changes.{with_reply, with_sent}
use Rattle.nova_ec.specs.Tables.{turned_to}

-- a call is sent: the caller waits for the handler, and the handler serves the call
abbrev pub sent_among : Contexts → ℕ → ℕ → ℕ → ℕ → Bool → Contexts
sent_among cs caller handler ip identifier items = with_sent cs caller handler Call ip identifier items

-- a call found its handler busy: the caller helps
abbrev pub helped_among : Contexts → ℕ → ℕ → Contexts
helped_among cs caller handler = turned_to cs caller (Helping handler)

-- a reply to a call is complete: the handler is parked, and the caller's call ends with success
abbrev pub completed_among : Contexts → ℕ → ℕ → Contexts
completed_among cs handler caller = with_reply cs handler caller (λ x. answered x Success None)

-- the caller of a handler that serves a call
abbrev pub caller_by_call : Option (ℕ × Mark) → Option ℕ
caller_by_call (Some (caller, Call)) = Some caller
caller_by_call other = None

abbrev pub served_call : Contexts → ℕ → Option ℕ
served_call cs handler = caller_by_call (caller_in cs handler)

-- a reply to the caller that is served
abbrev pub replied_among : Contexts → ℕ → Option ℕ → Contexts
replied_among cs handler (Some caller) = completed_among cs handler caller
replied_among cs handler None = cs

-- the handler of a call is dead: the call ends with ABORTED
abbrev pub aborted_among : Contexts → ℕ → Contexts
aborted_among cs caller = with_ec cs caller (answered (ec_of cs caller) Aborted None)
