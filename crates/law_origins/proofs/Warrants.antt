-- What finding a deed says of the context that does it: rows of the table of hypercalls, and exits.
use Rattle.std.proofs.Common.{◌≡◌, ℕ, ◌^◌, ◌-◌, ◌<◌, ◌≤◌, ap, sym, ◌∙◌, subst, refl, arith}
use Rattle.std.specs.Prelude.{Bool, true, false, not, nat_lt, IfSome, slice_get, Option, Some, None, Result, Ok, Err}
use Rattle.std.proofs.lemmas.Bool.Decides.{nat_tests}
use Rattle.rv_model.specs.Registers.{Registers, reg}
use Rattle.rv_model.specs.Step.{Once, Raised, Went}
use Rattle.nova_calls.specs.Hypercalls.{call_of, create_ec_row, ec_ctrl_row, read_row, rows}
use Rattle.nova_calls.specs.SoundCalls.{IsSoundCall}
use Rattle.nova_calls.specs.declared.call.Call.{Call}
use Rattle.nova_calls.specs.declared.call.Call.TheVariants as asks
use Rattle.nova_calls.specs.declared.numbers.TheConstants.{CREATE_EC, CREATE_PT, CREATE_SC, CREATE_SM, SC_CTRL}
use Rattle.nova_calls.proofs.Numbered.{read_numbered}
use Rattle.nova_range.specs.declared.range.Range.{Range}
use Rattle.nova_range.specs.declared.rights.Rights.{Rights}
use Rattle.nova_range.specs.declared.status.Status.{Status}
use Rattle.nova_range.specs.declared.status.Status.TheVariants.{BadCap, BadCpu, Busy}
use Rattle.law_forest.specs.Made.{MayUse}
use Rattle.law_forest.proofs.Walk.{IfDone, deed_holds, delivers_holds, hypercall_holds, sm_ctrl_holds}
use Rattle.law_turns.specs.Asked.{HoldsAt}
use Rattle.law_turns.proofs.Holding.{IsNamedAt, named_at}
use Rattle.law_turns.proofs.Rows.{call_holds, create_pd_holds, makes_hold, named_holds, reply_holds, unless_holds}
use Rattle.nova_model.specs.Calls.{exit_admitted}
use Rattle.nova_model.specs.Capabilities.{control_right, bind_portal_right, bind_scheduling_right, is_ec, is_local, is_pt, is_sc, is_schedulable, named}
use Rattle.nova_model.specs.Deeds.{deed, deed_in, instruction, ready, removes, signalled, stepping}
use Rattle.nova_model.specs.Deliveries.{delivers, delivery}
use Rattle.nova_model.specs.Exits.{exit_at, exit_portal, exit_to, exits, raised_exit}
use Rattle.nova_model.specs.Hypercalls.{and_then, hypercall, is_scheduled, maker, makes, new_domain, row, ticks_in, unless, unless_busy}
use Rattle.nova_model.specs.Portals.{handler_of}
use Rattle.nova_model.specs.Revokes.{next_leaf}
use Rattle.nova_model.specs.Running.{is_revoked}
use Rattle.nova_model.specs.State.{KernelState, budget_at, context, pd_of, processor_of, transfer}
use Rattle.nova_model.specs.declared.admit.ExitAdmit.{ExitAdmit}
use Rattle.nova_model.specs.declared.admit.ExitAdmit.TheVariants as exit
use Rattle.nova_model.specs.declared.context.State.{State}
use Rattle.nova_model.specs.declared.context.State.TheVariants.{Ready, Parked, Calling, Exiting, Sending, Granting, Replying, Revoking, Helping, Blocked, Dead, Fresh}
use Rattle.nova_model.specs.declared.deed.Deed.{Deed}
use Rattle.nova_model.specs.declared.deed.Deed.TheVariants as deeds
use Rattle.nova_model.specs.declared.delegation.Derivation.{Derivation}
use Rattle.nova_model.specs.declared.new_object.NewObject.{NewObject}
use Rattle.nova_model.specs.declared.new_object.NewObject.TheVariants as new
use Rattle.nova_objects.specs.declared.object.EcKind.{EcKind}
use Rattle.nova_objects.specs.declared.object.Object.{Object}
use Rattle.law_origins.proofs.Reasons.{IsReason, one_reason}

-- the exit that is sent is raised, and its portal, which the raiser's domain names, is one of this handler
pub record IsSentBy (k : KernelState) (ec handler reason q0 q1 : ℕ) : Type 0 where
  pub raised : raised_exit (context k ec).state ≡ Some (reason, q0, q1)
  pub portal : ℕ
  pub names : exit_portal k ec reason ≡ Ok portal
  pub leads : handler ≡ handler_of k portal

abbrev IsEventBase : NewObject → Type 0
IsEventBase (new.Ec pd cpu kind sp event) = event ≤ 2 ^ 20 - 9
IsEventBase other = Unit {0}

abbrev pub Warrant : KernelState → ℕ → Deed → Type 0
Warrant k ec (deeds.Recalls whose) = MayUse k (pd_of k ec) is_ec control_right whose
Warrant k ec (deeds.Makes call target made) = IsEventBase made
Warrant k ec (deeds.Sends handler ip identifier mtd reason q0 q1) = IsSentBy k ec handler reason q0 q1
Warrant k ec (deeds.Waits handler reason q0 q1) = raised_exit (context k ec).state ≡ Some (reason, q0, q1)
Warrant k ec other = Unit {0}

-- ROWS

-- the event base that is asked for
event_fits : (r : Registers) (target pd cpu : ℕ) (kind : EcKind) (sp event : ℕ) → call_of r ≡ Ok (asks.CreateEc target pd cpu kind sp event) → event ≤ 2 ^ 20 - 9
unfolding call_of
event_fits r target pd cpu kind sp event is =
    let number : reg r 17 ≡ 3 = sym (read_numbered r (asks.CreateEc target pd cpu kind sp event) is) in
    let own : read_row (Some (create_ec_row r)) ≡ Ok (asks.CreateEc target pd cpu kind sp event) = sym (ap (λ (n : ℕ). read_row (slice_get (rows r) n)) number) ∙ is in
    (by_row (create_ec_row r) (sound r) own)
  where
    sound : (r : Registers) → IfSome (create_ec_row r) IsSoundCall
    sound r = grind (arith, nat_tests)

    by_row : (o : Option Call) → IfSome o IsSoundCall → read_row (Some o) ≡ Ok (asks.CreateEc target pd cpu kind sp event) → event ≤ 2 ^ 20 - 9
    by_row None h e = absurd (cc)
    by_row (Some c) h e = (subst IsSoundCall (let same : c ≡ asks.CreateEc target pd cpu kind sp event = cc in same) h).3

new_pd_warrant : (k : KernelState) (ec target : ℕ) (first : Option (Range × Rights)) → Warrant k ec (new_domain k target first)
new_pd_warrant k ec target None = tt
new_pd_warrant k ec target (Some range) = tt

-- what is made, where its own rules see to it
made_warrant : (k : KernelState) (ec domain call target pd : ℕ) (its : ℕ → Result NewObject Status) → ((o : ℕ) → IfDone IsEventBase (its o)) →
    IfDone (Warrant k ec) (makes k domain call target pd its)
made_warrant k ec domain call target pd its h = by_owner (maker k domain target pd)
  where
    by_new : (r : Result NewObject Status) → IfDone IsEventBase r → IfDone (Warrant k ec) (and_then r (λ made. unless_busy k domain target (deeds.Makes call target made)))
    by_new (Ok made) fits = unless_holds (Warrant k ec) (is_revoked k domain target) Busy (Ok (deeds.Makes call target made)) fits
    by_new (Err status) fits = tt

    by_owner : (owner : Result ℕ Status) → IfDone (Warrant k ec) (and_then owner (λ o. and_then (its o) (λ made. unless_busy k domain target (deeds.Makes call target made))))
    by_owner (Ok o) = by_new (its o) (h o)
    by_owner (Err status) = tt

ec_warrant : (o cpu : ℕ) (kind : EcKind) (sp event : ℕ) (test : Bool) → event ≤ 2 ^ 20 - 9 → IfDone IsEventBase (unless test BadCpu (Ok (new.Ec o cpu kind sp event)))
ec_warrant o cpu kind sp event true fits = tt
ec_warrant o cpu kind sp event false fits = fits

sc_warrant : (k : KernelState) (quantum priority : ℕ) (r : Result ℕ Status) →
    IfDone IsEventBase (and_then r (λ ec. unless (is_scheduled k ec) BadCap (Ok (new.Sc ec (processor_of k ec) priority quantum))))
sc_warrant k quantum priority (Err status) = tt
sc_warrant k quantum priority (Ok ec) = by_test (is_scheduled k ec)
  where
    by_test : (t : Bool) → IfDone IsEventBase (unless t BadCap (Ok (new.Sc ec (processor_of k ec) priority quantum)))
    by_test true = tt
    by_test false = tt

pt_warrant : (mtd ip : ℕ) (r : Result ℕ Status) → IfDone IsEventBase (and_then r (λ handler. Ok (new.Pt handler mtd ip)))
pt_warrant mtd ip (Ok handler) = tt
pt_warrant mtd ip (Err status) = tt

-- the selector of a context that is recalled
selector_fits : (r : Registers) (whose : ℕ) → call_of r ≡ Ok (asks.EcCtrl whose) → whose < 2 ^ 20
unfolding call_of
selector_fits r whose is =
    let number : reg r 17 ≡ 9 = sym (read_numbered r (asks.EcCtrl whose) is) in
    let own : read_row (Some (ec_ctrl_row r)) ≡ Ok (asks.EcCtrl whose) = sym (ap (λ (n : ℕ). read_row (slice_get (rows r) n)) number) ∙ is in
    (by_row (ec_ctrl_row r) (sound r) own)
  where
    sound : (r : Registers) → IfSome (ec_ctrl_row r) IsSoundCall
    sound r = grind (arith, nat_tests)

    by_row : (o : Option Call) → IfSome o IsSoundCall → read_row (Some o) ≡ Ok (asks.EcCtrl whose) → whose < 2 ^ 20
    by_row None h e = absurd (cc)
    by_row (Some c) h e = subst IsSoundCall (let same : c ≡ asks.EcCtrl whose = cc in same) h

used_at : (k : KernelState) (domain selector right n : ℕ) (is : Object → Bool) → selector < 2 ^ 20 → IsNamedAt k domain selector right is n → MayUse k domain is right n
used_at k domain selector right n is below named_ =
    let h : HoldsAt k domain selector right n = named_.holds below in
    record { capability = h.capability; there = h.held.there; held = h.held.holder; kind = h.held.kind; target = h.leads; leads = named_.object; allowed = h.allowed }

recall_warrant : (k : KernelState) (ec whose : ℕ) → whose < 2 ^ 20 → (r : Result ℕ Status) → IfDone (IsNamedAt k (pd_of k ec) whose control_right is_ec) r →
    IfDone (Warrant k ec) (and_then r (λ n. Ok (deeds.Recalls n)))
recall_warrant k ec whose below (Ok n) named_ = used_at k (pd_of k ec) whose control_right n is_ec below named_
recall_warrant k ec whose below (Err status) named_ = tt

row_warrant : (k : KernelState) (ec : ℕ) (r : Registers) (c : Call) → call_of r ≡ Ok c → IfDone (Warrant k ec) (row k ec (pd_of k ec) c)
row_warrant k ec r (asks.Call portal flag) reads = call_holds (Warrant k ec) k ec (pd_of k ec) portal flag (λ pt is. tt) (λ pt is. tt)
row_warrant k ec r asks.Reply reads = reply_holds (Warrant k ec) k ec (λ caller mark is. tt)
row_warrant k ec r (asks.CreatePd target pd first) reads = create_pd_holds (Warrant k ec) k (pd_of k ec) target pd first (new_pd_warrant k ec target first)
row_warrant k ec r (asks.CreateEc target pd cpu kind sp event) reads =
    made_warrant k ec (pd_of k ec) CREATE_EC target pd _ (λ o. ec_warrant o cpu kind sp event (not (nat_lt cpu k.cpus)) (event_fits r target pd cpu kind sp event reads))
row_warrant k ec r (asks.CreateSc target pd its quantum priority) reads =
    made_warrant k ec (pd_of k ec) CREATE_SC target pd _ (λ o. sc_warrant k quantum priority (named k (pd_of k ec) is_schedulable bind_scheduling_right its))
row_warrant k ec r (asks.CreatePt target pd handler mtd ip) reads =
    made_warrant k ec (pd_of k ec) CREATE_PT target pd _ (λ o. pt_warrant mtd.0 ip (named k (pd_of k ec) is_local bind_portal_right handler))
row_warrant k ec r (asks.CreateSm target pd count) reads = made_warrant k ec (pd_of k ec) CREATE_SM target pd (λ o. Ok (new.Sm count)) (λ o. tt)
row_warrant k ec r (asks.EcCtrl whose) reads =
    recall_warrant k ec whose (selector_fits r whose reads) (named k (pd_of k ec) is_ec control_right whose) (named_at k (pd_of k ec) is_ec control_right whose)
row_warrant k ec r (asks.ScCtrl sc) reads =
    named_holds (Warrant k ec) (named k (pd_of k ec) is_sc control_right sc) (λ n. deeds.Tells SC_CTRL (ticks_in (budget_at k n))) (λ n. tt)
row_warrant k ec r (asks.PtCtrl pt identifier) reads =
    named_holds (Warrant k ec) (named k (pd_of k ec) is_pt control_right pt) (λ n. deeds.Names n identifier) (λ n. tt)
row_warrant k ec r (asks.SmCtrl sm action) reads =
    sm_ctrl_holds (Warrant k ec) k ec (pd_of k ec) sm action (λ n whom is wakes. tt) (λ n is answers. tt) (λ n until is answers till. tt)
row_warrant k ec r other reads = tt

pub deed_warrant : (k : KernelState) (ec : ℕ) → Warrant k ec (deed k ec)
deed_warrant k ec =
    deed_holds (Warrant k ec) k ec tt
    (record {
      steps = tt;
      raises = λ reason q0 q1. tt;
      dies = λ reason q0. tt;
      refuses = λ number status. tt;
      waits = λ pt reason q0 q1 is. is.raised;
      sends = λ pt reason q0 q1 is. record { raised = is.raised; portal = pt; names = is.portal; leads = refl };
      aborts = λ handler is. tt;
      removes = λ range own leaf is next. tt;
      returns = λ range own is next. tt;
      rows = λ asking c reads. row_warrant k ec (context k ec).regs c reads;
    })
    (record { gives = λ d x g. tt; skips = λ d reason place is. tt; finishes = λ v end answer present is. tt })

-- REASONS

abbrev pub HasReason : Deed → Type 0
HasReason (deeds.Raises reason q0 q1) = reason ≤ 8
HasReason other = Unit {0}

-- no row raises an exit
new_pd_reason : (k : KernelState) (target : ℕ) (first : Option (Range × Rights)) → HasReason (new_domain k target first)
new_pd_reason k target None = tt
new_pd_reason k target (Some range) = tt

row_reason : (k : KernelState) (ec domain : ℕ) (c : Call) → IfDone HasReason (row k ec domain c)
row_reason k ec domain (asks.Call portal flag) = call_holds HasReason k ec domain portal flag (λ pt is. tt) (λ pt is. tt)
row_reason k ec domain asks.Reply = reply_holds HasReason k ec (λ caller mark is. tt)
row_reason k ec domain (asks.CreatePd target pd first) = create_pd_holds HasReason k domain target pd first (new_pd_reason k target first)
row_reason k ec domain (asks.CreateEc target pd cpu kind sp event) = makes_hold HasReason CREATE_EC target (λ made. tt) k domain pd _
row_reason k ec domain (asks.CreateSc target pd its quantum priority) = makes_hold HasReason CREATE_SC target (λ made. tt) k domain pd _
row_reason k ec domain (asks.CreatePt target pd handler mtd ip) = makes_hold HasReason CREATE_PT target (λ made. tt) k domain pd _
row_reason k ec domain (asks.CreateSm target pd count) = makes_hold HasReason CREATE_SM target (λ made. tt) k domain pd (λ o. Ok (new.Sm count))
row_reason k ec domain (asks.EcCtrl other) = named_holds HasReason (named k domain is_ec control_right other) (λ n. deeds.Recalls n) (λ n. tt)
row_reason k ec domain (asks.ScCtrl sc) = named_holds HasReason (named k domain is_sc control_right sc) (λ n. deeds.Tells SC_CTRL (ticks_in (budget_at k n))) (λ n. tt)
row_reason k ec domain (asks.PtCtrl pt identifier) = named_holds HasReason (named k domain is_pt control_right pt) (λ n. deeds.Names n identifier) (λ n. tt)
row_reason k ec domain (asks.SmCtrl sm action) = sm_ctrl_holds HasReason k ec domain sm action (λ n whom is wakes. tt) (λ n is answers. tt) (λ n until is answers till. tt)
row_reason k ec domain other = tt

call_reason : (k : KernelState) (ec domain : ℕ) (r : Registers) → HasReason (hypercall k ec domain r)
call_reason k ec domain r = hypercall_holds HasReason k ec domain r (λ call status. tt) (λ c reads. row_reason k ec domain c)

exits_reason : (k : KernelState) (ec reason q0 q1 : ℕ) → HasReason (exits k ec reason q0 q1)
exits_reason k ec reason q0 q1 = by_portal (exit_portal k ec reason)
  where
    by_admit : (pt : ℕ) (a : ExitAdmit) → HasReason (exit_to k pt reason q0 q1 a)
    by_admit pt exit.Dies = tt
    by_admit pt exit.Waits = tt
    by_admit pt exit.Sends = tt

    by_portal : (o : Result ℕ Status) → HasReason (exit_at k ec reason q0 q1 o)
    by_portal (Err status) = tt
    by_portal (Ok pt) = by_admit pt (exit_admitted k.contexts ec (handler_of k pt))

ready_reason : (k : KernelState) (ec : ℕ) (t : Bool) → HasReason (ready k ec t)
ready_reason k ec true = omega arith
ready_reason k ec false = by_once (instruction k ec) (one_reason (context k ec).regs _)
  where
    by_signal : (reason q0 q1 : ℕ) → reason ≤ 8 → (t : Bool) → HasReason (signalled k ec reason q0 q1 t)
    by_signal reason q0 q1 least true = call_reason k ec (pd_of k ec) (context k ec).regs
    by_signal reason q0 q1 least false = least

    by_once : (o : Once) → IsReason o → HasReason (stepping k ec o)
    by_once (Raised reason q0 q1) least = by_signal reason q0 q1 least _
    by_once (Went regs store) least = tt

gives_reason : (k : KernelState) (ec : ℕ) (s : State) → (context k ec).state ≡ s → HasReason (delivers k (transfer k ec) (delivery k ec s))
gives_reason k ec s is = delivers_holds HasReason k ec (delivery k ec s) (ap (delivery k ec) is) tt
    (record { gives = λ d x g. tt; skips = λ d reason place is. tt; finishes = λ v end answer present is. tt })

takes_reason : (o : Option Derivation) → HasReason (removes o)
takes_reason None = tt
takes_reason (Some leaf) = tt

pub deed_reason : (k : KernelState) (ec : ℕ) → HasReason (deed k ec)
unfolding deed
deed_reason k ec = by_state (context k ec).state refl
  where
    by_state : (s : State) → (context k ec).state ≡ s → HasReason (deed_in k ec s)
    by_state Fresh is = omega arith
    by_state Ready is = ready_reason k ec (context k ec).recall
    by_state (Exiting reason q0 q1) is = exits_reason k ec reason q0 q1
    by_state (Sending reason q0 q1 handler) is = exits_reason k ec reason q0 q1
    by_state (Granting new) is = gives_reason k ec (Granting new) is
    by_state Replying is = gives_reason k ec Replying is
    by_state (Revoking range own) is = takes_reason (next_leaf (record { pd = pd_of k ec; range = range; own = own }) k.delegations)
    by_state (Helping handler) is = call_reason k ec (pd_of k ec) (context k ec).regs
    by_state Parked is = tt
    by_state Dead is = tt
    by_state (Blocked sm) is = tt
    by_state (Calling handler) is = tt
