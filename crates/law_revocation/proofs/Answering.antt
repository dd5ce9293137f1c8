-- Only the return of a revoke is told as an answer of SUCCESS to one.
use Rattle.std.proofs.Common.{◌≡◌, ℕ, ap, ◌∙◌, subst, refl}
use Rattle.std.specs.Prelude.{◌==◌, Bool, true, false, slice_get, Option, Some, None, Result, Ok, Err}
use Rattle.std.proofs.lemmas.Bool.{eqb-true, eq-eqb}
use Rattle.rv_model.specs.Registers.{Registers, reg}
use Rattle.rv_model.specs.Step.{Once, Raised, Went}
use Rattle.nova_calls.specs.Hypercalls.{call_of, read_row, rows}
use Rattle.nova_calls.specs.Numbers.{number_of}
use Rattle.nova_calls.specs.declared.call.Call.{Call}
use Rattle.nova_calls.specs.declared.call.Call.TheVariants as asks
use Rattle.nova_calls.specs.declared.numbers.TheConstants.{REVOKE, CREATE_EC, CREATE_SC, CREATE_PT, CREATE_SM, SC_CTRL}
use Rattle.nova_calls.proofs.Numbered.{read_numbered}
use Rattle.nova_range.specs.Statuses.{status_code}
use Rattle.nova_range.specs.declared.range.Range.{Range}
use Rattle.nova_range.specs.declared.rights.Rights.{Rights}
use Rattle.nova_range.specs.declared.status.Status.{Status}
use Rattle.nova_range.specs.declared.status.Status.TheVariants.{BadHyp, BadPar}
use Rattle.nova_model.specs.Calls.{exit_admitted}
use Rattle.nova_model.specs.Capabilities.{control_right, is_ec, is_pt, is_sc, named}
use Rattle.nova_model.specs.Deeds.{deed, deed_in, instruction, ready, removes, sign_of, signalled, stepping}
use Rattle.nova_model.specs.Deliveries.{delivers, delivery}
use Rattle.nova_model.specs.Exits.{exit_at, exit_portal, exit_to, exits}
use Rattle.nova_model.specs.Hypercalls.{and_then, hypercall, new_domain, or_refuses, row, ticks_in}
use Rattle.nova_model.specs.Portals.{handler_of}
use Rattle.nova_model.specs.Revokes.{next_leaf}
use Rattle.nova_model.specs.State.{KernelState, budget_at, context, pd_of, transfer}
use Rattle.nova_model.specs.declared.admit.ExitAdmit.{ExitAdmit}
use Rattle.nova_model.specs.declared.admit.ExitAdmit.TheVariants as exit
use Rattle.nova_model.specs.declared.context.State.{State}
use Rattle.nova_model.specs.declared.context.State.TheVariants.{Fresh, Ready, Parked, Calling, Helping, Exiting, Sending, Granting, Replying, Revoking, Blocked, Dead}
use Rattle.nova_model.specs.declared.deed.Deed.{Deed}
use Rattle.nova_model.specs.declared.deed.Deed.TheVariants.{Refuses, Makes, Recalls, Tells, Names, Finishes, Replies, Returns}
use Rattle.nova_model.specs.declared.delegation.Derivation.{Derivation}
use Rattle.nova_model.specs.declared.event.EventKind.TheVariants.{Answer}
use Rattle.nova_model.specs.declared.new_object.NewObject.TheVariants.{Sm}
use Rattle.nova_model.specs.declared.transfer.Delivery.{Delivery}
use Rattle.nova_model.specs.declared.transfer.ItemEnd.TheVariants.{Given}
use Rattle.law_forest.proofs.Walk.{IfDone, delivers_holds, sm_ctrl_holds}
use Rattle.law_turns.proofs.Rows.{call_holds, create_pd_holds, makes_hold, named_holds, reply_holds}

-- WHAT ROWS GIVE

-- no row gives a refusal, and what it makes or tells is told by another number
abbrev IsOfRow : Deed → Type 0
IsOfRow (Refuses call status) = ⊥
IsOfRow (Makes call target new) = (call == REVOKE) ≡ false
IsOfRow (Tells call value) = (call == REVOKE) ≡ false
IsOfRow other = Unit {0}

domain_of_row : (k : KernelState) (target : ℕ) (first : Option (Range × Rights)) → IsOfRow (new_domain k target first)
domain_of_row k target None = refl
domain_of_row k target (Some range) = tt

row_gives : (k : KernelState) (ec domain : ℕ) (c : Call) → IfDone IsOfRow (row k ec domain c)
row_gives k ec domain (asks.Call portal flag) = call_holds IsOfRow k ec domain portal flag (λ pt is. tt) (λ pt is. tt)
row_gives k ec domain asks.Reply = reply_holds IsOfRow k ec (λ caller mark is. tt)
row_gives k ec domain (asks.CreatePd target pd first) = create_pd_holds IsOfRow k domain target pd first (domain_of_row k target first)
row_gives k ec domain (asks.CreateEc target pd cpu kind sp event) = makes_hold IsOfRow CREATE_EC target (λ made. refl) k domain pd _
row_gives k ec domain (asks.CreateSc target pd its quantum priority) = makes_hold IsOfRow CREATE_SC target (λ made. refl) k domain pd _
row_gives k ec domain (asks.CreatePt target pd handler mtd ip) = makes_hold IsOfRow CREATE_PT target (λ made. refl) k domain pd _
row_gives k ec domain (asks.CreateSm target pd count) = makes_hold IsOfRow CREATE_SM target (λ made. refl) k domain pd (λ o. Ok (Sm count))
row_gives k ec domain (asks.Revoke range own) = tt
row_gives k ec domain (asks.EcCtrl other) = named_holds IsOfRow (named k domain is_ec control_right other) (λ n. Recalls n) (λ n. tt)
row_gives k ec domain (asks.ScCtrl sc) =
    named_holds IsOfRow (named k domain is_sc control_right sc) (λ n. Tells SC_CTRL (ticks_in (budget_at k n))) (λ n. refl)
row_gives k ec domain (asks.PtCtrl pt identifier) = named_holds IsOfRow (named k domain is_pt control_right pt) (λ n. Names n identifier) (λ n. tt)
row_gives k ec domain (asks.SmCtrl sm action) =
    sm_ctrl_holds IsOfRow k ec domain sm action (λ n whom is wakes. tt) (λ n is answers. tt) (λ n until is answers till. tt)
row_gives k ec domain other = refl

-- the row of a revoke has no refusal
revoke_done : (k : KernelState) (ec domain : ℕ) (c : Call) (status : Status) → number_of c ≡ REVOKE → row k ec domain c ≡ Err status → ⊥
revoke_done k ec domain (asks.Revoke range own) status number is = absurd (cc)
revoke_done k ec domain other status number is = absurd (cc)

-- EACH DEED

-- a refused revoke is not told as SUCCESS
abbrev IsToldRightly : Deed → Type 0
IsToldRightly (Refuses call status) = (call == REVOKE) ≡ true → (status_code status == 0) ≡ false
IsToldRightly (Makes call target new) = (call == REVOKE) ≡ false
IsToldRightly (Tells call value) = (call == REVOKE) ≡ false
IsToldRightly other = Unit {0}

from_row : (d : Deed) → IsOfRow d → IsToldRightly d
from_row (Refuses call status) h = absurd h
from_row (Makes call target new) h = h
from_row (Tells call value) h = h
from_row other h = tt

-- arguments that don't read
fault_code : (r : Registers) (status : Status) → call_of r ≡ Err status → (status_code status == 0) ≡ false
unfolding call_of
fault_code r status is = by_row (slice_get (rows r) (reg r 17)) is
  where
    by_row : (o : Option (Option Call)) → read_row o ≡ Err status → (status_code status == 0) ≡ false
    by_row (Some (Some c)) e = absurd (cc)
    by_row (Some None) e = let same : BadPar ≡ status = cc in subst (λ (s : Status). (status_code s == 0) ≡ false) same refl
    by_row None e = let same : BadHyp ≡ status = cc in subst (λ (s : Status). (status_code s == 0) ≡ false) same refl

hypercall_told : (k : KernelState) (ec domain : ℕ) (r : Registers) → IsToldRightly (hypercall k ec domain r)
hypercall_told k ec domain r = by_call (call_of r) refl
  where
    by_row : (c : Call) → call_of r ≡ Ok c → (d : Result Deed Status) → row k ec domain c ≡ d → IfDone IsOfRow d → IsToldRightly (or_refuses (reg r 17) d)
    by_row c reads (Ok d) is h = from_row d h
    by_row c reads (Err status) is h = λ same. absurd (revoke_done k ec domain c status (read_numbered r c reads ∙ eqb-true (reg r 17) REVOKE same) is)

    by_call : (o : Result Call Status) → call_of r ≡ o → IsToldRightly (or_refuses (reg r 17) (and_then o (row k ec domain)))
    by_call (Err status) is = λ same. fault_code r status is
    by_call (Ok c) is = by_row c is (row k ec domain c) refl (row_gives k ec domain c)

exits_told : (k : KernelState) (ec reason q0 q1 : ℕ) → IsToldRightly (exits k ec reason q0 q1)
exits_told k ec reason q0 q1 = by_portal (exit_portal k ec reason)
  where
    by_admit : (pt : ℕ) (a : ExitAdmit) → IsToldRightly (exit_to k pt reason q0 q1 a)
    by_admit pt exit.Dies = tt
    by_admit pt exit.Waits = tt
    by_admit pt exit.Sends = tt

    by_portal : (o : Result ℕ Status) → IsToldRightly (exit_at k ec reason q0 q1 o)
    by_portal (Err status) = tt
    by_portal (Ok pt) = by_admit pt (exit_admitted k.contexts ec (handler_of k pt))

gives_told : (k : KernelState) (ec : ℕ) (o : Option Delivery) → delivery k ec (context k ec).state ≡ o → IsToldRightly (delivers k (transfer k ec) o)
gives_told k ec o is =
    delivers_holds IsToldRightly k ec o is tt (record { gives = λ d x g. tt; skips = λ d reason place g. tt; finishes = λ v end answer present ends. tt })

ready_told : (k : KernelState) (ec : ℕ) (test : Bool) → IsToldRightly (ready k ec test)
ready_told k ec true = tt
ready_told k ec false = by_instruction (instruction k ec)
  where
    by_signal : (reason q0 q1 : ℕ) (test : Bool) → IsToldRightly (signalled k ec reason q0 q1 test)
    by_signal reason q0 q1 true = hypercall_told k ec (pd_of k ec) (context k ec).regs
    by_signal reason q0 q1 false = tt

    by_instruction : (o : Once) → IsToldRightly (stepping k ec o)
    by_instruction (Raised reason q0 q1) = by_signal reason q0 q1 _
    by_instruction (Went regs store) = tt

removes_told : (o : Option Derivation) → IsToldRightly (removes o)
removes_told None = tt
removes_told (Some leaf) = tt

state_told : (k : KernelState) (ec : ℕ) (s : State) → (context k ec).state ≡ s → IsToldRightly (deed_in k ec s)
state_told k ec Fresh is = tt
state_told k ec Ready is = ready_told k ec (context k ec).recall
state_told k ec Parked is = tt
state_told k ec (Calling handler) is = tt
state_told k ec (Helping handler) is = hypercall_told k ec (pd_of k ec) (context k ec).regs
state_told k ec (Exiting reason q0 q1) is = exits_told k ec reason q0 q1
state_told k ec (Sending reason q0 q1 handler) is = exits_told k ec reason q0 q1
state_told k ec (Blocked sm) is = tt
state_told k ec (Granting new) is = gives_told k ec (delivery k ec (Granting new)) (ap (delivery k ec) is)
state_told k ec Replying is = gives_told k ec (delivery k ec Replying) (ap (delivery k ec) is)
state_told k ec (Revoking range own) is = removes_told (next_leaf (record { pd = pd_of k ec; range = range; own = own }) k.delegations)
state_told k ec Dead is = tt

deed_told : (k : KernelState) (ec : ℕ) → IsToldRightly (deed k ec)
unfolding deed
deed_told k ec = state_told k ec (context k ec).state refl

-- A DEED THAT IS TOLD SO

is_return : (d : Deed) → IsToldRightly d → (sign_of d).0 ≡ Answer → (sign_of d).1 ≡ REVOKE → (sign_of d).2 ≡ 0 → d ≡ Returns
is_return Returns h kind call code = refl
is_return (Refuses call status) h kind number code =
    let zero : (status_code status == 0) ≡ true = eq-eqb (status_code status) 0 code in
    let other = h (eq-eqb call REVOKE number) in
    absurd (cc)
is_return (Makes call target new) h kind number code = let same = eq-eqb call REVOKE number in absurd (cc)
is_return (Tells call value) h kind number code = let same = eq-eqb call REVOKE number in absurd (cc)
is_return (Finishes item (Given children) words follows) h kind number code = absurd (cc)
is_return (Replies caller mark true) h kind number code = absurd (cc)
is_return other h kind number code = absurd (cc)

pub answer_returns : (k : KernelState) (ec : ℕ) → (sign_of (deed k ec)).0 ≡ Answer → (sign_of (deed k ec)).1 ≡ REVOKE → (sign_of (deed k ec)).2 ≡ 0 →
    deed k ec ≡ Returns
answer_returns k ec kind number code = is_return (deed k ec) (deed_told k ec) kind number code
