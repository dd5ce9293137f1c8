-- Which deeds reach execution contexts of other processors, and which change where pages of memory lead; and what of it is seen before a deed is decided.
use Rattle.std.specs.Prelude.{◌≡◌, Bool, true, false, List, Some, Result, Ok, Err, if◌then◌else◌}
use Rattle.nova_calls.specs.Hypercalls.{call_of}
use Rattle.nova_calls.specs.declared.call.Call.{Call}
use Rattle.nova_calls.specs.declared.call.Call.TheVariants as asks
use Rattle.nova_calls.specs.declared.call.SmAction.TheVariants as act
use Rattle.nova_range.specs.declared.status.Status.{Status}
use Rattle.nova_model.specs.Edges.{is_asking, is_giving}
use Rattle.nova_model.specs.Numbers.{CpuId, EcId}
use Rattle.nova_model.specs.State.{KernelState, context, context_at}
use Rattle.nova_model.specs.declared.context.EcState.{EcState}
use Rattle.nova_model.specs.declared.context.State.{State}
use Rattle.nova_model.specs.declared.context.State.TheVariants.{Blocked, Revoking}
use Rattle.nova_model.specs.declared.deed.Deed.{Deed}
use Rattle.nova_model.specs.declared.deed.Deed.TheVariants.{Gives, Makes, Recalls, Removes, Ups}
use Rattle.nova_model.specs.declared.new_object.NewObject.{NewObject}
use Rattle.nova_model.specs.declared.new_object.NewObject.TheVariants as new
use Rattle.law_swaps.specs.Touches.{IsMet}
use Rattle.nova_touching.specs.declared.whom.Whom.{Whom}
use Rattle.nova_touching.specs.declared.whom.Whom.TheVariants.{Anybody, Nobody, TheBlocked}

-- WHOM A TURN REACHES, beside contexts of its own processor

-- an up wakes one that is blocked; a recall and a new scheduling context may be of any processor; all else stays on its own
abbrev pub whom_made : NewObject → Whom
whom_made (new.Sc ec cpu priority quantum) = Anybody
whom_made other = Nobody

abbrev pub whom_by : Deed → Whom
whom_by (Ups sm woken) = TheBlocked
whom_by (Recalls ec) = Anybody
whom_by (Makes call target made) = whom_made made
whom_by other = Nobody

-- by the call that is asked for
abbrev pub whom_asked : Call → Whom
whom_asked (asks.SmCtrl sm act.Up) = TheBlocked
whom_asked (asks.EcCtrl ec) = Anybody
whom_asked (asks.CreateSc target pd ec quantum priority) = Anybody
whom_asked other = Nobody

abbrev pub whom_read : Result Call Status → Whom
whom_read (Ok call) = whom_asked call
whom_read (Err status) = Nobody

-- and by an execution context's state and registers: only a context that asks reaches others
abbrev pub whom_of : EcState → Whom
whom_of x = if is_asking x.state then whom_read (call_of x.regs) else Nobody

-- a context in this state is among them
abbrev pub is_blocked : State → Bool
is_blocked (Blocked sm) = true
is_blocked other = false

abbrev pub is_among : Whom → State → Bool
is_among Nobody s = false
is_among TheBlocked s = is_blocked s
is_among Anybody s = true

-- the processors of all that are among them, where somebody is chosen there
abbrev pub AreListed : KernelState → Whom → List CpuId → Type 0
AreListed k whom processors = (ec : EcId) (x : EcState) → context_at k ec ≡ Some x → is_among whom x.state ≡ true → IsMet k processors x.cpu

-- WHERE PAGES LEAD

-- a deed that gives or takes away: a derivation of memory may join or go
abbrev pub moves_by : Deed → Bool
moves_by (Gives child cursor) = true
moves_by (Removes leaf) = true
moves_by other = false

-- only a context that gives items or revokes does one
abbrev pub is_moving : State → Bool
is_moving (Revoking range own) = true
is_moving other = is_giving other
