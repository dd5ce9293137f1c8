-- A hypercall that is refused isn't answered with SUCCESS: a walk over the refusals of each row.
use Rattle.std.proofs.Common.{◌≡◌, ℕ, refl}
use Rattle.std.specs.Prelude.{◌≢◌, ◌==◌, Bool, true, false, not, nat_lt, slice_get, Option, Some, None, option_and_then, Result, Ok, Err, if◌then◌else◌, ◌||◌}
use Rattle.rv_model.specs.Registers.{Registers, reg}
use Rattle.nova_calls.specs.Hypercalls.{call_of, read_row, rows}
use Rattle.nova_calls.specs.declared.call.Call.{Call}
use Rattle.nova_calls.specs.declared.call.Call.TheVariants as asks
use Rattle.nova_calls.specs.declared.call.SmAction.{SmAction}
use Rattle.nova_calls.specs.declared.call.SmAction.TheVariants as act
use Rattle.nova_calls.specs.declared.numbers.TheConstants.{CREATE_EC, CREATE_PT, CREATE_SC, CREATE_SM}
use Rattle.nova_objects.specs.declared.object.Object.{Object}
use Rattle.nova_range.specs.declared.status.Status.{Status}
use Rattle.nova_range.specs.declared.status.Status.TheVariants.{Aborted, BadCap, BadCpu, BadPar, Busy, Success, Timeout}
use Rattle.nova_utcb.specs.Messages.{has_counts}
use Rattle.nova_model.specs.Calls.{admitted, is_parked, is_same_cpu}
use Rattle.nova_model.specs.Capabilities.{allowed, bind_portal_right, bind_scheduling_right, call_right, capability, control_right, create_right, down_right, is_ec, is_held, is_local, is_pd, is_pt, is_sc, is_schedulable, is_sm, named, or_bad_cap, up_right}
use Rattle.nova_model.specs.Edges.{circle, cpu_in, is_dead, state_in}
use Rattle.nova_model.specs.Hypercalls.{and_then, asked, called, deadline_after, downed_within, is_scheduled, maker, makes, replied, row, sm_ctrl, unless, upped_by}
use Rattle.nova_model.specs.Portals.{handler_of}
use Rattle.nova_model.specs.Running.{is_revoked}
use Rattle.nova_model.specs.Semaphores.{answer_of, semaphore, woken}
use Rattle.nova_model.specs.State.{Contexts, KernelState, context, is_local_thread, message, processor_of}
use Rattle.nova_model.specs.declared.admit.Admit.{Admit}
use Rattle.nova_model.specs.declared.admit.Admit.TheVariants.{Help, Refused, Send}
use Rattle.nova_model.specs.declared.context.Mark.{Mark}
use Rattle.nova_model.specs.declared.deed.Deed.{Deed}
use Rattle.nova_model.specs.declared.deed.Deed.TheVariants as deeds
use Rattle.nova_model.specs.declared.new_object.NewObject.{NewObject}
use Rattle.nova_model.specs.declared.new_object.NewObject.TheVariants as new
use Rattle.nova_model.specs.declared.semaphore.Down.{Down}
use Rattle.nova_model.specs.declared.semaphore.Down.TheVariants as lowering
use Rattle.nova_model.specs.declared.semaphore.Overflow.{Overflow as TooMuch}
use Rattle.nova_model.specs.declared.times.Deadline.{Deadline}
use Rattle.law_forest.proofs.Walk.{IfDone}

-- an answer that is an error is another status than SUCCESS
abbrev pub IsUndone : {A : Type 0} → Result A Status → Type 0
IsUndone (Ok x) = Unit {0}
IsUndone (Err status) = status ≢ Success

then_undone : {A B : Type 0} (r : Result A Status) (next : A → Result B Status) → IsUndone r → ((x : A) → IsUndone (next x)) → IsUndone (and_then r next)
then_undone (Ok x) next first rest = rest x
then_undone (Err status) next first rest = first

unless_undone : {A : Type 0} (t : Bool) (status : Status) (r : Result A Status) → status ≢ Success → IsUndone r → IsUndone (unless t status r)
unless_undone true status r other rest = other
unless_undone false status r other rest = rest

bad_cap : BadCap ≢ Success
bad_cap is = cc

bad_par : BadPar ≢ Success
bad_par is = cc

busy : Busy ≢ Success
busy is = cc

named_undone : (k : KernelState) (domain : ℕ) (is : Object → Bool) (right selector : ℕ) → IsUndone (named k domain is right selector)
named_undone k domain is right selector = by_capability (option_and_then (allowed k.objects is right) (capability k domain selector))
  where
    by_capability : (o : Option ℕ) → IsUndone (or_bad_cap o)
    by_capability None = bad_cap
    by_capability (Some n) = tt

maker_undone : (k : KernelState) (domain target pd : ℕ) → IsUndone (maker k domain target pd)
maker_undone k domain target pd =
    then_undone (named k domain is_pd create_right pd) _ (named_undone k domain is_pd create_right pd) (λ owner. unless_undone (is_held k domain target) BadCap (Ok owner) bad_cap tt)

makes_undone : (k : KernelState) (domain call target pd : ℕ) (made : ℕ → Result NewObject Status) → ((owner : ℕ) → IsUndone (made owner)) → IsUndone (makes k domain call target pd made)
makes_undone k domain call target pd made each =
    then_undone (maker k domain target pd) _ (maker_undone k domain target pd)
    (λ owner. then_undone (made owner) _ (each owner) (λ its. unless_undone (is_revoked k domain target) Busy (Ok (deeds.Makes call target its)) busy tt))

-- what a handler does with a call
admit_undone : (cs : Contexts) (caller handler : ℕ) (flag : Bool) (status : Status) → admitted cs caller handler flag ≡ Refused status → status ≢ Success
admit_undone cs caller handler flag status is =
    by_tests (not (is_same_cpu (cpu_in cs handler) (cpu_in cs caller))) (is_dead (state_in cs handler) || circle cs handler caller) (is_parked (state_in cs handler)) flag is
  where
    by_tests : (away lost parked at_once : Bool) →
        (if away then Refused BadCpu else if lost then Refused Aborted else if parked then Send else if at_once then Refused Timeout else Help) ≡ Refused status → status ≢ Success
    by_tests true lost parked at_once e = λ same. cc
    by_tests false true parked at_once e = λ same. cc
    by_tests false false true at_once e = absurd (cc)
    by_tests false false false true e = λ same. cc
    by_tests false false false false e = absurd (cc)

call_undone : (k : KernelState) (ec domain selector : ℕ) (flag : Bool) → IsUndone (row k ec domain (asks.Call selector flag))
call_undone k ec domain selector flag =
    unless_undone (not (has_counts (message k ec))) BadPar _ bad_par
    (then_undone (named k domain is_pt call_right selector) _ (named_undone k domain is_pt call_right selector) (λ pt. by_admit pt (admitted k.contexts ec (handler_of k pt) flag) (admit_undone k.contexts ec (handler_of k pt) flag)))
  where
    by_admit : (pt : ℕ) (a : Admit) → ((status : Status) → a ≡ Refused status → status ≢ Success) → IsUndone (called k ec pt a)
    by_admit pt (Refused status) undone = undone status refl
    by_admit pt Help undone = tt
    by_admit pt Send undone = tt

reply_undone : (k : KernelState) (ec domain : ℕ) → IsUndone (row k ec domain asks.Reply)
reply_undone k ec domain =
    unless_undone (not (is_local_thread k ec)) BadPar _ bad_par (unless_undone (not (has_counts (message k ec))) BadPar _ bad_par (by_caller (context k ec).caller))
  where
    by_caller : (o : Option (ℕ × Mark)) → IsUndone (replied k ec o)
    by_caller (Some (caller, mark)) = tt
    by_caller None = bad_par

sm_undone : (k : KernelState) (ec domain selector : ℕ) (action : SmAction) → IsUndone (sm_ctrl k ec domain selector action)
sm_undone k ec domain selector act.Up = then_undone (named k domain is_sm up_right selector) _ (named_undone k domain is_sm up_right selector) (λ sm. by_woken sm (woken (semaphore k.semaphores sm)))
  where
    by_woken : (sm : ℕ) (o : Result (Option ℕ) TooMuch) → IsUndone (upped_by sm o)
    by_woken sm (Ok whom) = tt
    by_woken sm (Err full) = λ is. cc
sm_undone k ec domain selector act.Down = then_undone (named k domain is_sm down_right selector) _ (named_undone k domain is_sm down_right selector) (λ sm. tt)
sm_undone k ec domain selector (act.DownWithin ticks) =
    then_undone (named k domain is_sm down_right selector) _ (named_undone k domain is_sm down_right selector) (λ sm. by_answer sm (deadline_after k ec sm ticks) (answer_of (semaphore k.semaphores sm)))
  where
    late : Timeout ≢ Success
    late is = cc

    by_answer : (sm : ℕ) (until : Deadline) (d : Down) → IsUndone (downed_within sm ticks until d)
    by_answer sm until lowering.Done = tt
    by_answer sm until lowering.Blocked = unless_undone (ticks == 0) Timeout _ late tt

row_undone : (k : KernelState) (ec domain : ℕ) (c : Call) → IsUndone (row k ec domain c)
row_undone k ec domain (asks.Call portal flag) = call_undone k ec domain portal flag
row_undone k ec domain asks.Reply = reply_undone k ec domain
row_undone k ec domain (asks.CreatePd target pd first) =
    then_undone (maker k domain target pd) _ (maker_undone k domain target pd) (λ owner. unless_undone (is_revoked k domain target) Busy _ busy tt)
row_undone k ec domain (asks.CreateEc target pd cpu kind sp event) = makes_undone k domain CREATE_EC target pd _ (λ owner. unless_undone (not (nat_lt cpu k.cpus)) BadCpu _ bad_cpu tt)
  where
    bad_cpu : BadCpu ≢ Success
    bad_cpu is = cc
row_undone k ec domain (asks.CreateSc target pd whose quantum priority) =
    makes_undone k domain CREATE_SC target pd _
    (λ owner. then_undone (named k domain is_schedulable bind_scheduling_right whose) _ (named_undone k domain is_schedulable bind_scheduling_right whose)
    (λ n. unless_undone (is_scheduled k n) BadCap (Ok (new.Sc n (processor_of k n) priority quantum)) bad_cap tt))
row_undone k ec domain (asks.CreatePt target pd handler mtd ip) =
    makes_undone k domain CREATE_PT target pd _
    (λ owner. then_undone (named k domain is_local bind_portal_right handler) _ (named_undone k domain is_local bind_portal_right handler) (λ n. tt))
row_undone k ec domain (asks.CreateSm target pd count) = makes_undone k domain CREATE_SM target pd (λ owner. Ok (new.Sm count)) (λ owner. tt)
row_undone k ec domain (asks.EcCtrl whose) = then_undone (named k domain is_ec control_right whose) _ (named_undone k domain is_ec control_right whose) (λ n. tt)
row_undone k ec domain (asks.ScCtrl sc) = then_undone (named k domain is_sc control_right sc) _ (named_undone k domain is_sc control_right sc) (λ n. tt)
row_undone k ec domain (asks.PtCtrl pt identifier) = then_undone (named k domain is_pt control_right pt) _ (named_undone k domain is_pt control_right pt) (λ n. tt)
row_undone k ec domain (asks.SmCtrl sm action) = sm_undone k ec domain sm action
row_undone k ec domain other = tt

read_undone : (o : Option (Option Call)) → IsUndone (read_row o)
read_undone (Some (Some c)) = tt
read_undone (Some None) = bad_par
read_undone None = λ is. cc

pub asked_undone : (k : KernelState) (ec domain : ℕ) (r : Registers) → IsUndone (asked k ec domain r)
unfolding call_of
asked_undone k ec domain r = then_undone (read_row (slice_get (rows r) (reg r 17))) (row k ec domain) (read_undone (slice_get (rows r) (reg r 17))) (λ c. row_undone k ec domain c)

-- what holds of each row that its registers read as holds of what it asks for
pub asked_holds : (P : Deed → Type 0) (k : KernelState) (ec domain : ℕ) (r : Registers) → ((c : Call) → call_of r ≡ Ok c → IfDone P (row k ec domain c)) → IfDone P (asked k ec domain r)
asked_holds P k ec domain r rows_ = by_call (call_of r) rows_
  where
    by_call : (o : Result Call Status) → ((c : Call) → o ≡ Ok c → IfDone P (row k ec domain c)) → IfDone P (and_then o (row k ec domain))
    by_call (Ok c) each = each c refl
    by_call (Err status) each = tt
