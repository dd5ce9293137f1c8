-- A deed is a refusal only where the row of a call refuses.
use Rattle.std.proofs.Common.{◌≡◌, ℕ, ◌==◌, ◌&&◌, Bool, true, false, not, nat_lt, Option, Some, None, refl, ap, sym, ◌∙◌}
use Rattle.std.specs.Prelude.{Result, Ok, Err}
use Rattle.rv_model.specs.Registers.{Registers, reg}
use Rattle.rv_model.specs.Step.{Once, Raised, Went, environment_call}
use Rattle.nova_calls.specs.Hypercalls.{call_of}
use Rattle.nova_calls.specs.declared.call.Call.{Call}
use Rattle.nova_calls.specs.declared.call.Call.TheVariants as asks
use Rattle.nova_calls.specs.declared.call.Call.TheVariants.{CreatePd, CreateEc, CreateSc, CreatePt, CreateSm, EcCtrl, ScCtrl, PtCtrl, SmCtrl}
use Rattle.nova_calls.specs.declared.call.SmAction.TheVariants as act
use Rattle.nova_range.specs.declared.range.Range.{Range}
use Rattle.nova_range.specs.declared.rights.Rights.{Rights}
use Rattle.nova_range.specs.declared.status.Status.{Status}
use Rattle.nova_range.specs.declared.status.Status.TheVariants.{BadCap, BadCpu, BadPar, Busy, Timeout}
use Rattle.nova_utcb.specs.Messages.{has_counts}
use Rattle.nova_calls.specs.declared.numbers.TheConstants.{CREATE_EC, CREATE_SC, CREATE_PT, CREATE_SM, SC_CTRL}
use Rattle.nova_model.specs.Calls.{admitted}
use Rattle.nova_model.specs.Capabilities.{bind_portal_right, bind_scheduling_right, call_right, control_right, down_right, is_ec, is_local, is_pt, is_sc, is_schedulable, is_sm, named, up_right}
use Rattle.nova_model.specs.Deeds.{deed, deed_in, instruction, ready, removes, signalled, stepping}
use Rattle.nova_model.specs.Deliveries.{delegated, delivered, delivers, delivery, flag, part_deed, parted}
use Rattle.nova_model.specs.Exits.{exit_at, exit_portal, exit_to}
use Rattle.nova_model.specs.Hypercalls.{and_then, asked, call, called, deadline_after, is_scheduled, ticks_in, downed_by, downed_within, hypercall, maker, makes, new_domain, or_refuses, replied, reply, row, unless, unless_busy, upped_by}
use Rattle.nova_model.specs.Portals.{handler_of}
use Rattle.nova_model.specs.Semaphores.{answer_of, semaphore, woken}
use Rattle.nova_model.specs.Running.{is_revoked}
use Rattle.nova_model.specs.State.{KernelState, budget_at, context, is_local_thread, is_thread, message, pd_of, processor_of, transfer}
use Rattle.nova_model.specs.Transfers.{Part}
use Rattle.nova_model.specs.declared.admit.Admit.{Admit}
use Rattle.nova_model.specs.declared.admit.Admit.TheVariants.{Refused, Help, Send}
use Rattle.nova_model.specs.declared.admit.ExitAdmit.{ExitAdmit}
use Rattle.nova_model.specs.declared.admit.ExitAdmit.TheVariants as exit
use Rattle.nova_model.specs.declared.context.Mark.{Mark}
use Rattle.nova_model.specs.declared.context.State.{State}
use Rattle.nova_model.specs.declared.context.State.TheVariants.{Fresh, Ready, Parked, Calling, Helping, Exiting, Sending, Granting, Replying, Revoking, Blocked, Dead}
use Rattle.nova_model.specs.declared.deed.Deed.{Deed}
use Rattle.nova_model.specs.declared.deed.Deed.TheVariants as does
use Rattle.nova_model.specs.declared.deed.Deed.TheVariants.{Blocks, Makes, Names, Recalls, Refuses, Tells}
use Rattle.nova_model.specs.declared.delegation.Derivation.{Derivation}
use Rattle.nova_model.specs.declared.new_object.NewObject.{NewObject}
use Rattle.nova_model.specs.declared.new_object.NewObject.TheVariants as new
use Rattle.nova_model.specs.declared.semaphore.Down.{Down}
use Rattle.nova_model.specs.declared.semaphore.Down.TheVariants as down
use Rattle.nova_model.specs.declared.semaphore.Overflow as too
use Rattle.nova_model.specs.declared.times.Deadline.{Deadline}
use Rattle.nova_model.specs.declared.transfer.Delivery.{Delivery}
use Rattle.nova_model.specs.declared.transfer.Job.{Job}
use Rattle.nova_model.specs.declared.transfer.Reason.{Reason}
use Rattle.nova_model.specs.declared.transfer.Skip.{Skip}
use Rattle.nova_model.specs.declared.transfer.Transfer.{Transfer}
use Rattle.law_rows.specs.Refusals.{is_refusal}

-- no row gives a refusal as its deed, nor a part or the end of an item
abbrev pub is_of_row : Deed → Bool
is_of_row (Refuses call status) = false
is_of_row (does.Gives child cursor) = false
is_of_row (does.Skips reason place cursor) = false
is_of_row (does.Finishes item end words after) = false
is_of_row other = true

abbrev pub Gives : Result Deed Status → Type 0
Gives (Ok d) = is_of_row d ≡ true
Gives (Err status) = Unit {0}

and_then_gives : {A : Type 0} (r : Result A Status) (next : A → Result Deed Status) → ((x : A) → Gives (next x)) → Gives (and_then r next)
and_then_gives (Ok x) next each = each x
and_then_gives (Err status) next each = tt

unless_gives : (b : Bool) (status : Status) (rest : Result Deed Status) → Gives rest → Gives (unless b status rest)
unless_gives true status rest is = tt
unless_gives false status rest is = is

called_gives : (k : KernelState) (ec pt : ℕ) (a : Admit) → Gives (called k ec pt a)
called_gives k ec pt (Refused status) = tt
called_gives k ec pt Help = refl
called_gives k ec pt Send = refl

replied_gives : (k : KernelState) (ec : ℕ) (c : Option (ℕ × Mark)) → Gives (replied k ec c)
replied_gives k ec (Some (caller, m)) = refl
replied_gives k ec None = tt

domain_gives : (k : KernelState) (target : ℕ) (range : Option (Range × Rights)) → is_of_row (new_domain k target range) ≡ true
domain_gives k target None = refl
domain_gives k target (Some range) = refl

busy_gives : (k : KernelState) (domain target : ℕ) (d : Deed) → is_of_row d ≡ true → Gives (unless_busy k domain target d)
busy_gives k domain target d is = unless_gives (is_revoked k domain target) Busy (Ok d) is

makes_gives : (k : KernelState) (domain number target pd : ℕ) (object : ℕ → Result NewObject Status) → Gives (makes k domain number target pd object)
makes_gives k domain number target pd object =
    and_then_gives (maker k domain target pd) (λ owner. and_then (object owner) (λ made. unless_busy k domain target (Makes number target made))) (λ owner.
    and_then_gives (object owner) (λ made. unless_busy k domain target (Makes number target made)) (λ made. busy_gives k domain target (Makes number target made) refl))

control_gives : (r : Result ℕ Status) (d : ℕ → Deed) → ((n : ℕ) → is_of_row (d n) ≡ true) → Gives (and_then r (λ n. Ok (d n)))
control_gives r d each = and_then_gives r (λ n. Ok (d n)) each

upped_gives : (sm : ℕ) (r : Result (Option ℕ) too.Overflow) → Gives (upped_by sm r)
upped_gives sm (Ok whom) = refl
upped_gives sm (Err e) = tt

downed_gives : (sm : ℕ) (d : Down) → is_of_row (downed_by sm d) ≡ true
downed_gives sm down.Done = refl
downed_gives sm down.Blocked = refl

within_gives : (sm ticks : ℕ) (until : Deadline) (d : Down) → Gives (downed_within sm ticks until d)
within_gives sm ticks until down.Done = refl
within_gives sm ticks until down.Blocked = unless_gives (ticks == 0) Timeout (Ok (Blocks sm (Some until))) refl

call_gives : (k : KernelState) (ec domain selector : ℕ) (flagged : Bool) → Gives (call k ec domain selector flagged)
call_gives k ec domain selector flagged =
    unless_gives (not (has_counts (message k ec))) BadPar (and_then (named k domain is_pt call_right selector) (λ pt. called k ec pt (admitted k.contexts ec (handler_of k pt) flagged)))
    (and_then_gives (named k domain is_pt call_right selector) (λ pt. called k ec pt (admitted k.contexts ec (handler_of k pt) flagged))
    (λ pt. called_gives k ec pt (admitted k.contexts ec (handler_of k pt) flagged)))

reply_gives : (k : KernelState) (ec : ℕ) → Gives (reply k ec)
reply_gives k ec =
    unless_gives (not (is_local_thread k ec)) BadPar (unless (not (has_counts (message k ec))) BadPar (replied k ec (context k ec).caller))
    (unless_gives (not (has_counts (message k ec))) BadPar (replied k ec (context k ec).caller) (replied_gives k ec (context k ec).caller))

row_gives : (k : KernelState) (ec domain : ℕ) (c : Call) → Gives (row k ec domain c)
row_gives k ec domain (asks.Call portal flagged) = call_gives k ec domain portal flagged
row_gives k ec domain asks.Reply = reply_gives k ec
row_gives k ec domain (CreatePd target pd first) =
    and_then_gives (maker k domain target pd) (λ owner. unless_busy k domain target (new_domain k target first)) (λ owner. busy_gives k domain target (new_domain k target first) (domain_gives k target first))
row_gives k ec domain (CreateEc target pd cpu kind sp event) = makes_gives k domain CREATE_EC target pd (λ owner. unless (not (nat_lt cpu k.cpus)) BadCpu (Ok (new.Ec owner cpu kind sp event)))
row_gives k ec domain (CreateSc target pd whose quantum priority) =
    makes_gives k domain CREATE_SC target pd (λ owner. and_then (named k domain is_schedulable bind_scheduling_right whose) (λ n. unless (is_scheduled k n) BadCap (Ok (new.Sc n (processor_of k n) priority quantum))))
row_gives k ec domain (CreatePt target pd handler mtd ip) = makes_gives k domain CREATE_PT target pd (λ owner. and_then (named k domain is_local bind_portal_right handler) (λ n. Ok (new.Pt n mtd.0 ip)))
row_gives k ec domain (CreateSm target pd count) = makes_gives k domain CREATE_SM target pd (λ owner. Ok (new.Sm count))
row_gives k ec domain (EcCtrl whose) = control_gives (named k domain is_ec control_right whose) Recalls (λ n. refl)
row_gives k ec domain (ScCtrl sc) = control_gives (named k domain is_sc control_right sc) (λ n. Tells SC_CTRL (ticks_in (budget_at k n))) (λ n. refl)
row_gives k ec domain (PtCtrl pt identifier) = control_gives (named k domain is_pt control_right pt) (λ n. Names n identifier) (λ n. refl)
row_gives k ec domain (SmCtrl selector act.Up) =
    and_then_gives (named k domain is_sm up_right selector) (λ sm. upped_by sm (woken (semaphore k.semaphores sm))) (λ sm. upped_gives sm (woken (semaphore k.semaphores sm)))
row_gives k ec domain (SmCtrl selector act.Down) =
    control_gives (named k domain is_sm down_right selector) (λ sm. downed_by sm (answer_of (semaphore k.semaphores sm))) (λ sm. downed_gives sm (answer_of (semaphore k.semaphores sm)))
row_gives k ec domain (SmCtrl selector (act.DownWithin ticks)) =
    and_then_gives (named k domain is_sm down_right selector) (λ sm. downed_within sm ticks (deadline_after k ec sm ticks) (answer_of (semaphore k.semaphores sm)))
    (λ sm. within_gives sm ticks (deadline_after k ec sm ticks) (answer_of (semaphore k.semaphores sm)))
row_gives k ec domain other = refl

pub asked_gives : (k : KernelState) (ec domain : ℕ) (r : Registers) → Gives (asked k ec domain r)
asked_gives k ec domain r = and_then_gives (call_of r) (row k ec domain) (row_gives k ec domain)

refused_by : (number call : ℕ) (r : Result Deed Status) (status : Status) → Gives r → or_refuses number r ≡ Refuses call status → (call ≡ number) × (r ≡ Err status)
refused_by number call (Ok d) status gives is = let both : false ≡ true = sym (ap is_of_row is) ∙ gives in absurd (cc)
refused_by number call (Err other) status gives is = (cc, cc)

pub call_refused : (k : KernelState) (ec domain call : ℕ) (r : Registers) (status : Status) → hypercall k ec domain r ≡ Refuses call status → (call ≡ reg r 17) × (asked k ec domain r ≡ Err status)
call_refused k ec domain call r status is = refused_by (reg r 17) call (asked k ec domain r) status (asked_gives k ec domain r) is

-- ALL DEEDS

exit_gives : (k : KernelState) (pt reason q0 q1 : ℕ) (a : ExitAdmit) → is_refusal (exit_to k pt reason q0 q1 a) ≡ false
exit_gives k pt reason q0 q1 exit.Dies = refl
exit_gives k pt reason q0 q1 exit.Waits = refl
exit_gives k pt reason q0 q1 exit.Sends = refl

exits_give : (k : KernelState) (ec reason q0 q1 : ℕ) (r : Result ℕ Status) → is_refusal (exit_at k ec reason q0 q1 r) ≡ false
exits_give k ec reason q0 q1 (Err status) = refl
exits_give k ec reason q0 q1 (Ok pt) = exit_gives k pt reason q0 q1 _

parted_gives : (j : Job) (d : Derivation) (r : Result Derivation Reason) → is_refusal (parted j d r) ≡ false
parted_gives j d (Ok child) = refl
parted_gives j d (Err reason) = refl

part_gives : (v : Delivery) (t : Transfer) (j : Job) (p : Option Part) → is_refusal (part_deed v t j p) ≡ false
part_gives v t j None = refl
part_gives v t j (Some p) = parted_gives j p.source p.child

delegated_gives : (k : KernelState) (v : Delivery) (t : Transfer) (r : Result Job Skip) → is_refusal (delegated k v t r) ≡ false
delegated_gives k v t (Err skip) = refl
delegated_gives k v t (Ok j) = part_gives v t j _

delivers_give : (k : KernelState) (t : Transfer) (v : Option Delivery) → is_refusal (delivers k t v) ≡ false
delivers_give k t None = refl
delivers_give k t (Some v) = go (flag v == 1) refl where
  go : (b : Bool) → (flag v == 1) ≡ b → is_refusal (delivered k v t) ≡ false
  go true f = rw f (delegated_gives k v t _)
  go false f = rw f refl

removes_give : (o : Option Derivation) → is_refusal (removes o) ≡ false
removes_give None = refl
removes_give (Some leaf) = refl

never : (d : Deed) (call : ℕ) (status : Status) → is_refusal d ≡ false → d ≡ Refuses call status → ⊥
never d call status none is = let both : true ≡ false = sym (ap is_refusal is) ∙ none in absurd (cc)

module _ (k : KernelState) (ec call : ℕ) (status : Status) where
  abbrev IsRefused : Type 0
  IsRefused = (call ≡ reg (context k ec).regs 17) × (asked k ec (pd_of k ec) (context k ec).regs ≡ Err status)

  in_step : (reason q0 q1 : ℕ) (b : Bool) → signalled k ec reason q0 q1 b ≡ Refuses call status → IsRefused
  in_step reason q0 q1 true is = call_refused k ec (pd_of k ec) call (context k ec).regs status is
  in_step reason q0 q1 false is = cc

  in_instruction : (o : Once) → stepping k ec o ≡ Refuses call status → IsRefused
  in_instruction (Raised reason q0 q1) is = in_step reason q0 q1 ((reason == environment_call) && is_thread k ec) is
  in_instruction (Went regs store) is = cc

  in_ready : (b : Bool) → ready k ec b ≡ Refuses call status → IsRefused
  in_ready true is = cc
  in_ready false is = in_instruction (instruction k ec) is

  in_state : (s : State) → deed_in k ec s ≡ Refuses call status → IsRefused
  in_state Fresh is = cc
  in_state Ready is = in_ready (context k ec).recall is
  in_state (Exiting reason q0 q1) is = absurd (never _ call status (exits_give k ec reason q0 q1 (exit_portal k ec reason)) is)
  in_state Parked is = cc
  in_state Dead is = cc
  in_state (Blocked sm) is = cc
  in_state (Granting new) is = absurd (never _ call status (delivers_give k (transfer k ec) (delivery k ec (Granting new))) is)
  in_state Replying is = absurd (never _ call status (delivers_give k (transfer k ec) (delivery k ec Replying)) is)
  in_state (Revoking range own) is = absurd (never _ call status (removes_give _) is)
  in_state (Calling handler) is = cc
  in_state (Helping handler) is = call_refused k ec (pd_of k ec) call (context k ec).regs status is
  in_state (Sending reason q0 q1 handler) is = absurd (never _ call status (exits_give k ec reason q0 q1 (exit_portal k ec reason)) is)

  pub refused : deed k ec ≡ Refuses call status → IsRefused
  unfolding deed
  refused is = in_state (context k ec).state is
