-- The table of hypercalls: for each number its refusals in their order, each with its condition, and else the deed.
-- (NOVA specification, hypercalls; the numbers and statuses are this project's.)
use Rattle.std.specs.Prelude.{ℕ, ◌+◌, ◌==◌, Bool, true, false, not, nat_lt, length, Option, Some, None, option_map, Result, Ok, Err}
use Rattle.std.specs.List.{find, list_any}
use Rattle.nova_model.specs.Numbers.{PdId, EcId, PtId, SmId, CpuId, Selector}
use Rattle.rv_model.specs.Registers.{Registers, reg}
use Rattle.nova_calls.specs.Hypercalls.{call_of}
use Rattle.nova_calls.specs.declared.call.Call.{Call}
use Rattle.nova_calls.specs.declared.numbers.TheConstants.{CREATE_PD, CREATE_EC, CREATE_SC, CREATE_PT, CREATE_SM, LOOKUP, SC_CTRL}
use Rattle.nova_calls.specs.declared.call.Call.TheVariants as asks
use Rattle.nova_calls.specs.declared.call.Call.TheVariants.{CreatePd, CreateEc, CreateSc, CreatePt, CreateSm, Revoke, Lookup, EcCtrl, ScCtrl, PtCtrl, SmCtrl}
use Rattle.nova_calls.specs.declared.call.SmAction.{SmAction}
use Rattle.nova_calls.specs.declared.call.SmAction.TheVariants as act
use Rattle.nova_utcb.specs.Messages.{has_counts, has_items}
use Rattle.nova_objects.specs.declared.object.Object.{Object}
use Rattle.nova_objects.specs.declared.object.Object.TheVariants.{Sc}
use Rattle.nova_objects.specs.declared.object.EcKind.{EcKind}
use Rattle.nova_range.specs.RangeWords.{word_of}
use Rattle.nova_range.specs.declared.range.Range.{Range}
use Rattle.nova_range.specs.declared.rights.Rights.{Rights}
use Rattle.nova_range.specs.declared.status.Status.{Status}
use Rattle.nova_range.specs.declared.status.Status.TheVariants.{BadCap, BadPar, BadCpu, Busy, Overflow, Timeout}
use Rattle.nova_model.specs.Capabilities.{create_right, control_right, call_right, bind_scheduling_right, bind_portal_right, is_pd, is_ec, is_local, is_schedulable, is_sc, is_pt, is_sm, up_right, down_right, is_held, named}
use Rattle.nova_model.specs.Calls.{admitted}
use Rattle.nova_model.specs.Portals.{handler_of, ip_of, identifier}
use Rattle.nova_model.specs.Running.{is_revoked}
use Rattle.nova_model.specs.Semaphores.{semaphore, woken, answer_of}
use Rattle.nova_model.specs.Delegations.{covers, range_of}
use Rattle.nova_model.specs.State.{KernelState, context, message, budget_at, processor_of, is_local_thread}
use Rattle.nova_model.specs.declared.admit.Admit.{Admit}
use Rattle.nova_model.specs.declared.admit.Admit.TheVariants.{Refused, Help, Send}
use Rattle.nova_model.specs.declared.budget.Budget.{Budget}
use Rattle.nova_model.specs.declared.context.Mark.{Mark}
use Rattle.nova_model.specs.declared.deed.Deed.{Deed}
use Rattle.nova_model.specs.declared.deed.Deed.TheVariants.{Refuses, Makes, Recalls, Tells, Names, Opens, Calls, Helps, Replies, Revokes, Ups, Downs, Blocks}
use Rattle.nova_model.specs.declared.new_object.NewObject.{NewObject}
use Rattle.nova_model.specs.declared.new_object.NewObject.TheVariants as new
use Rattle.nova_model.specs.declared.semaphore.Down.{Down}
use Rattle.nova_model.specs.declared.semaphore.Down.TheVariants.{Done, Blocked}
use Rattle.nova_model.specs.declared.semaphore.Overflow as too
use Rattle.nova_model.specs.declared.times.Deadline.{Deadline}
use Rattle.nova_model.specs.Times.{clock}

-- what comes next, unless the answer is there already
abbrev pub and_then : {A B : Type 0} → Result A Status → (A → Result B Status) → Result B Status
and_then (Err status) next = Err status
and_then (Ok x) next = next x

-- a condition of an answer
abbrev pub unless : {A : Type 0} → Bool → Status → Result A Status → Result A Status
unless true status rest = Err status
unless false status rest = rest

-- the create rules, for a maker of protection domain `domain`: BAD_CAP where `pd_selector` names no protection domain with create, or where the
-- target is held; else the domain in which the object is made
abbrev pub maker : KernelState → PdId → Selector → Selector → Result PdId Status
maker k domain target pd_selector =
    and_then (named k domain is_pd create_right pd_selector) (λ owner.
    unless (is_held k domain target) BadCap (Ok owner))

-- and last BUSY, where an execution context of that domain revokes an object range that contains the target
abbrev pub unless_busy : KernelState → PdId → Selector → Deed → Result Deed Status
unless_busy k domain target deed = unless (is_revoked k domain target) Busy (Ok deed)

-- the object that is made in the named domain, by rules of its own between them
abbrev pub makes : KernelState → PdId → ℕ → Selector → Selector → (PdId → Result NewObject Status) → Result Deed Status
makes k domain call target pd_selector new =
    and_then (maker k domain target pd_selector) (λ owner.
    and_then (new owner) (λ made. unless_busy k domain target (Makes call target made)))

-- create_pd: the create rules; it goes on where there is a first range to be given
abbrev pub new_domain : KernelState → Selector → Option (Range × Rights) → Deed
new_domain k target None = Makes CREATE_PD target new.Pd
new_domain k target (Some range) = Opens target (length k.objects)

abbrev pub create_pd : KernelState → PdId → Selector → Selector → Option (Range × Rights) → Result Deed Status
create_pd k domain target pd_selector first = and_then (maker k domain target pd_selector) (λ owner. unless_busy k domain target (new_domain k target first))

-- create_ec: the create rules; BAD_CPU where there is no such processor
abbrev pub create_ec : KernelState → PdId → Selector → Selector → CpuId → EcKind → ℕ → Selector → Result Deed Status
create_ec k domain target pd_selector cpu kind sp event =
    makes k domain CREATE_EC target pd_selector (λ owner. unless (not (nat_lt cpu k.cpus)) BadCpu (Ok (new.Ec owner cpu kind sp event)))

-- an execution context has a scheduling context
abbrev pub schedules : EcId → Object → Bool
schedules ec (Sc its cpu priority quantum) = its == ec
schedules ec other = false

abbrev pub is_scheduled : KernelState → EcId → Bool
is_scheduled k ec = list_any (schedules ec) k.objects

-- create_sc: the create rules, and BAD_CAP where `ec_selector` names no execution context with bind SC, or a local thread, or an execution context
-- that has a scheduling context already. The new scheduling context is of its processor.
abbrev pub create_sc : KernelState → PdId → Selector → Selector → Selector → ℕ → ℕ → Result Deed Status
create_sc k domain target pd_selector ec_selector quantum priority =
    makes k domain CREATE_SC target pd_selector (λ owner. and_then (named k domain is_schedulable bind_scheduling_right ec_selector) (λ ec.
    unless (is_scheduled k ec) BadCap (Ok (new.Sc ec (processor_of k ec) priority quantum))))

-- create_pt: the create rules, and BAD_CAP where `ec_selector` names no local thread with bind PT
abbrev pub create_pt : KernelState → PdId → Selector → Selector → Selector → ℕ → ℕ → Result Deed Status
create_pt k domain target pd_selector ec_selector mtd ip =
    makes k domain CREATE_PT target pd_selector (λ owner. and_then (named k domain is_local bind_portal_right ec_selector) (λ handler. Ok (new.Pt handler mtd ip)))

-- create_sm: the create rules
abbrev pub create_sm : KernelState → PdId → Selector → Selector → ℕ → Result Deed Status
create_sm k domain target pd_selector count = makes k domain CREATE_SM target pd_selector (λ owner. Ok (new.Sm count))

-- the ticks of a scheduling context, before this turn
abbrev pub ticks_in : Option Budget → ℕ
ticks_in None = 0
ticks_in (Some b) = b.ticks

-- the word of the derivation that covers the base of a range, with its own base, order and rights, or 0
abbrev pub looked_up : KernelState → PdId → Range → ℕ
looked_up k domain range = word_of (option_map (λ d. (range_of d, d.rights)) (find (covers range.kind domain range.base) k.delegations.list))

-- call: BAD_PAR where the caller's message counts more words than there are; BAD_CAP where the selector names no portal with call; then what comes
-- of it at the handler
abbrev pub called : KernelState → EcId → PtId → Admit → Result Deed Status
called k ec pt (Refused status) = Err status
called k ec pt Help = Ok (Helps (handler_of k pt))
called k ec pt Send = Ok (Calls (handler_of k pt) (ip_of k pt) (identifier k pt) (has_items (message k ec)))

abbrev pub call : KernelState → EcId → PdId → Selector → Bool → Result Deed Status
call k ec domain selector flag =
    unless (not (has_counts (message k ec))) BadPar (
    and_then (named k domain is_pt call_right selector) (λ pt. called k ec pt (admitted k.contexts ec (handler_of k pt) flag)))

-- reply: BAD_PAR where a local thread doesn't ask, or where its message counts more words than there are; else it goes to the caller, which a local
-- thread that is at work has
abbrev pub replied : KernelState → EcId → Option (EcId × Mark) → Result Deed Status
replied k ec (Some (caller, mark)) = Ok (Replies caller mark (has_items (message k ec)))
replied k ec None = Err BadPar

abbrev pub reply : KernelState → EcId → Result Deed Status
reply k ec =
    unless (not (is_local_thread k ec)) BadPar (
    unless (not (has_counts (message k ec))) BadPar (replied k ec (context k ec).caller))

-- sm_ctrl: BAD_CAP where the selector names no semaphore with the right to it. An up is OVERFLOW at the greatest counter with no context waiting; a
-- down lowers the counter, or waits. A down that waits for `ticks` ticks has its deadline that long after this turn, and without any tick it is
-- TIMEOUT.
abbrev pub upped_by : SmId → Result (Option EcId) too.Overflow → Result Deed Status
upped_by sm (Ok whom) = Ok (Ups sm whom)
upped_by sm (Err e) = Err Overflow

abbrev pub downed_by : SmId → Down → Deed
downed_by sm Done = Downs sm
downed_by sm Blocked = Blocks sm None

abbrev pub deadline_after : KernelState → EcId → SmId → ℕ → Deadline
deadline_after k ec sm ticks = record { cpu = processor_of k ec; sm = sm; at = clock k.times (processor_of k ec) + 1 + ticks }

abbrev pub downed_within : SmId → ℕ → Deadline → Down → Result Deed Status
downed_within sm ticks until Done = Ok (Downs sm)
downed_within sm ticks until Blocked = unless (ticks == 0) Timeout (Ok (Blocks sm (Some until)))

abbrev pub sm_ctrl : KernelState → EcId → PdId → Selector → SmAction → Result Deed Status
sm_ctrl k ec domain selector act.Up = and_then (named k domain is_sm up_right selector) (λ sm. upped_by sm (woken (semaphore k.semaphores sm)))
sm_ctrl k ec domain selector act.Down = and_then (named k domain is_sm down_right selector) (λ sm. Ok (downed_by sm (answer_of (semaphore k.semaphores sm))))
sm_ctrl k ec domain selector (act.DownWithin ticks) =
    and_then (named k domain is_sm down_right selector) (λ sm. downed_within sm ticks (deadline_after k ec sm ticks) (answer_of (semaphore k.semaphores sm)))

-- the rows. revoke and lookup have no refusal. ec_ctrl, sc_ctrl, pt_ctrl: BAD_CAP where the selector names no such object with control.
abbrev pub row : KernelState → EcId → PdId → Call → Result Deed Status
row k ec domain (asks.Call portal flag) = call k ec domain portal flag
row k ec domain asks.Reply = reply k ec
row k ec domain (CreatePd target pd first) = create_pd k domain target pd first
row k ec domain (CreateEc target pd cpu kind sp event) = create_ec k domain target pd cpu kind sp event
row k ec domain (CreateSc target pd whose quantum priority) = create_sc k domain target pd whose quantum priority
row k ec domain (CreatePt target pd handler mtd ip) = create_pt k domain target pd handler mtd.0 ip
row k ec domain (CreateSm target pd count) = create_sm k domain target pd count
row k ec domain (Revoke range own) = Ok (Revokes range own)
row k ec domain (Lookup range) = Ok (Tells LOOKUP (looked_up k domain range))
row k ec domain (EcCtrl whose) = and_then (named k domain is_ec control_right whose) (λ n. Ok (Recalls n))
row k ec domain (ScCtrl sc) = and_then (named k domain is_sc control_right sc) (λ n. Ok (Tells SC_CTRL (ticks_in (budget_at k n))))
row k ec domain (PtCtrl pt identifier) = and_then (named k domain is_pt control_right pt) (λ n. Ok (Names n identifier))
row k ec domain (SmCtrl sm action) = sm_ctrl k ec domain sm action

-- the arguments are read, and the row of the number says what is asked for
abbrev pub asked : KernelState → EcId → PdId → Registers → Result Deed Status
asked k ec domain r = and_then (call_of r) (row k ec domain)

-- a refusal is a deed too
abbrev pub or_refuses : ℕ → Result Deed Status → Deed
or_refuses call (Ok deed) = deed
or_refuses call (Err status) = Refuses call status

-- the hypercall of an execution context of this protection domain, whose number is in x17
abbrev pub hypercall : KernelState → EcId → PdId → Registers → Deed
hypercall k ec domain r = or_refuses (reg r 17) (asked k ec domain r)
