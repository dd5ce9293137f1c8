-- No deed but an instruction that goes on stores, and only a context that is about to execute makes it.
use Rattle.std.proofs.Common.{◌≡◌, ℕ, refl, ap}
use Rattle.std.specs.Prelude.{Bool, true, false, not, ◌&&◌, Option, Some, None, Result, Ok, Err}
use Rattle.nova_calls.specs.declared.call.Call.{Call}
use Rattle.nova_calls.specs.declared.call.Call.TheVariants as asks
use Rattle.nova_calls.specs.declared.numbers.TheConstants.{CREATE_EC, CREATE_SC, CREATE_PT, CREATE_SM, SC_CTRL}
use Rattle.nova_range.specs.declared.range.Range.{Range}
use Rattle.nova_range.specs.declared.rights.Rights.{Rights}
use Rattle.nova_range.specs.declared.status.Status.{Status}
use Rattle.nova_model.specs.Capabilities.{is_ec, is_sc, is_pt, named, control_right}
use Rattle.nova_model.specs.Deeds.{deed, deed_in, ready, removes}
use Rattle.nova_model.specs.Deliveries.{delivery}
use Rattle.nova_model.specs.Exits.{exit_at, exit_portal, exit_to, exits}
use Rattle.nova_model.specs.Hypercalls.{hypercall, new_domain, row, ticks_in}
use Rattle.nova_model.specs.State.{KernelState, budget_at, context, pd_of}
use Rattle.nova_model.specs.declared.admit.ExitAdmit.{ExitAdmit}
use Rattle.nova_model.specs.declared.admit.ExitAdmit.TheVariants as exit
use Rattle.nova_model.specs.declared.context.State.{State}
use Rattle.nova_model.specs.declared.context.State.TheVariants.{Fresh, Ready, Parked, Calling, Helping, Exiting, Sending, Granting, Replying, Revoking, Blocked, Dead}
use Rattle.nova_model.specs.declared.deed.Deed.{Deed}
use Rattle.nova_model.specs.declared.deed.Deed.TheVariants.{Recalls, Tells, Names}
use Rattle.nova_model.specs.declared.delegation.Derivation.{Derivation}
use Rattle.nova_model.specs.declared.new_object.NewObject.TheVariants as new
use Rattle.law_forest.specs.Effects.{store_by}
use Rattle.law_forest.proofs.Walk.{Delivers, IfDone, delivers_holds, hypercall_holds, sm_ctrl_holds}
use Rattle.law_turns.proofs.Rows.{call_holds, makes_hold, named_holds, reply_holds, create_pd_holds}
use Rattle.nova_recording.specs.Wants.{is_going, is_ready}

abbrev pub NoStore : KernelState → ℕ → Deed → Type 0
NoStore k ec d = store_by k ec d ≡ None

domain_none : (k : KernelState) (ec target : ℕ) (first : Option (Range × Rights)) → NoStore k ec (new_domain k target first)
domain_none k ec target None = refl
domain_none k ec target (Some range) = refl

row_none : (k : KernelState) (ec domain : ℕ) (c : Call) → IfDone (NoStore k ec) (row k ec domain c)
row_none k ec domain (asks.Call portal flag) = call_holds (NoStore k ec) k ec domain portal flag (λ pt is. refl) (λ pt is. refl)
row_none k ec domain asks.Reply = reply_holds (NoStore k ec) k ec (λ caller mark is. refl)
row_none k ec domain (asks.CreatePd target pd first) = create_pd_holds (NoStore k ec) k domain target pd first (domain_none k ec target first)
row_none k ec domain (asks.CreateEc target pd cpu kind sp event) = makes_hold (NoStore k ec) CREATE_EC target (λ made. refl) k domain pd _
row_none k ec domain (asks.CreateSc target pd its quantum priority) = makes_hold (NoStore k ec) CREATE_SC target (λ made. refl) k domain pd _
row_none k ec domain (asks.CreatePt target pd handler mtd ip) = makes_hold (NoStore k ec) CREATE_PT target (λ made. refl) k domain pd _
row_none k ec domain (asks.CreateSm target pd count) = makes_hold (NoStore k ec) CREATE_SM target (λ made. refl) k domain pd (λ o. Ok (new.Sm count))
row_none k ec domain (asks.EcCtrl other) = named_holds (NoStore k ec) (named k domain is_ec control_right other) (λ n. Recalls n) (λ n. refl)
row_none k ec domain (asks.ScCtrl sc) = named_holds (NoStore k ec) (named k domain is_sc control_right sc) (λ n. Tells SC_CTRL (ticks_in (budget_at k n))) (λ n. refl)
row_none k ec domain (asks.PtCtrl pt identifier) = named_holds (NoStore k ec) (named k domain is_pt control_right pt) (λ n. Names n identifier) (λ n. refl)
row_none k ec domain (asks.SmCtrl sm action) =
    sm_ctrl_holds (NoStore k ec) k ec domain sm action (λ n whom is wakes. refl) (λ n is answers. refl) (λ n until is answers till. refl)
row_none k ec domain other = refl

call_none : (k : KernelState) (ec : ℕ) → NoStore k ec (hypercall k ec (pd_of k ec) (context k ec).regs)
call_none k ec = hypercall_holds (NoStore k ec) k ec (pd_of k ec) (context k ec).regs (λ call status. refl) (λ c is. row_none k ec (pd_of k ec) c)

exits_none : (k : KernelState) (ec reason q0 q1 : ℕ) → NoStore k ec (exits k ec reason q0 q1)
exits_none k ec reason q0 q1 = by_portal (exit_portal k ec reason)
  where
    by_admit : (pt : ℕ) (a : ExitAdmit) → NoStore k ec (exit_to k pt reason q0 q1 a)
    by_admit pt exit.Dies = refl
    by_admit pt exit.Waits = refl
    by_admit pt exit.Sends = refl

    by_portal : (o : Result ℕ Status) → NoStore k ec (exit_at k ec reason q0 q1 o)
    by_portal (Err status) = refl
    by_portal (Ok pt) = by_admit pt _

removes_none : (k : KernelState) (ec : ℕ) (o : Option Derivation) → NoStore k ec (removes o)
removes_none k ec None = refl
removes_none k ec (Some leaf) = refl

delivers_none : (k : KernelState) (ec : ℕ) → Delivers (NoStore k ec) k ec
delivers_none k ec = record {
  gives = λ d x g. refl;
  skips = λ d reason place is. refl;
  finishes = λ v end answer present is. refl;
}

-- a context that is not about to execute stores nothing
pub no_store : (k : KernelState) (ec : ℕ) → is_going (context k ec) ≡ false → NoStore k ec (deed k ec)
unfolding deed
no_store k ec not_going = by_state (context k ec).state refl not_going
  where
    by_recall : (recall : Bool) → not recall ≡ false → NoStore k ec (ready k ec recall)
    by_recall true is = refl
    by_recall false is = absurd cc

    by_state : (s : State) → (context k ec).state ≡ s → (is_ready s && not (context k ec).recall) ≡ false → NoStore k ec (deed_in k ec s)
    by_state Fresh is none = refl
    by_state Ready is none = by_recall (context k ec).recall none
    by_state (Exiting reason q0 q1) is none = exits_none k ec reason q0 q1
    by_state (Sending reason q0 q1 handler) is none = exits_none k ec reason q0 q1
    by_state (Granting new) is none = delivers_holds (NoStore k ec) k ec (delivery k ec (Granting new)) (ap (delivery k ec) is) refl (delivers_none k ec)
    by_state Replying is none = delivers_holds (NoStore k ec) k ec (delivery k ec Replying) (ap (delivery k ec) is) refl (delivers_none k ec)
    by_state (Helping handler) is none = call_none k ec
    by_state (Revoking range own) is none = removes_none k ec _
    by_state (Calling handler) is none = refl
    by_state Parked is none = refl
    by_state Dead is none = refl
    by_state (Blocked sm) is none = refl
