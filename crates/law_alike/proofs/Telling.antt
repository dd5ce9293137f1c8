-- Which deeds tell ticks, by the registers of the context that acts, and by the event of the turn.
use Rattle.std.proofs.Common.{◌≡◌, ℕ, refl, sym, ap, ◌∙◌}
use Rattle.std.specs.Prelude.{Bool, true, false, ◌==◌, Option, Some, None, Result, Ok, Err, IfSome}
use Rattle.std.proofs.lemmas.Bool.{eqb-false}
use Rattle.rv_model.specs.Registers.{Registers, reg}
use Rattle.nova_calls.specs.Hypercalls.{call_of}
use Rattle.nova_calls.specs.declared.call.Call.{Call}
use Rattle.nova_calls.specs.declared.call.Call.TheVariants as asks
use Rattle.nova_calls.specs.declared.numbers.TheConstants.{CREATE_EC, CREATE_PT, CREATE_SC, CREATE_SM, SC_CTRL}
use Rattle.nova_calls.proofs.Numbered.{read_numbered}
use Rattle.nova_range.specs.declared.range.Range.{Range}
use Rattle.nova_range.specs.declared.rights.Rights.{Rights}
use Rattle.nova_range.specs.declared.status.Status.{Status}
use Rattle.nova_model.specs.Capabilities.{control_right, is_ec, is_pt, is_sc, named}
use Rattle.nova_model.specs.Choice.{Candidate, next_to_act}
use Rattle.nova_model.specs.Deeds.{deed, sign_of}
use Rattle.nova_model.specs.Hypercalls.{new_domain, row, ticks_in}
use Rattle.nova_model.specs.State.{KernelState, budget_at, context, pd_of}
use Rattle.nova_model.specs.Turn.{answer_of, turn}
use Rattle.nova_model.specs.declared.deed.Deed.{Deed}
use Rattle.nova_model.specs.declared.deed.Deed.TheVariants.{Makes, Names, Recalls, Tells}
use Rattle.nova_model.specs.declared.new_object.NewObject.{NewObject}
use Rattle.nova_model.specs.declared.new_object.NewObject.TheVariants as new
use Rattle.law_forest.proofs.Walk.{IfDone, deed_holds, sm_ctrl_holds}
use Rattle.law_turns.proofs.Asking.{makes_each}
use Rattle.law_turns.proofs.Rows.{call_holds, create_pd_holds, named_holds, reply_holds}
use Rattle.law_alike.specs.Alike.{TellsNoTicks, answers_ticks, may_tell_ticks, tells_ticks}
use Rattle.law_alike.proofs.Turns.{answers}

-- ticks are told where x17 has the number
abbrev Told : Registers → Deed → Type 0
Told r (Tells call value) = (call == SC_CTRL) ≡ true → reg r 17 ≡ SC_CTRL
Told r other = Unit {0}

opens_told : (k : KernelState) (r : Registers) (target : ℕ) (first : Option (Range × Rights)) → Told r (new_domain k target first)
opens_told k r target None = tt
opens_told k r target (Some range) = tt

made_told : (r : Registers) (number target : ℕ) (o : Result NewObject Status) → IfDone (λ m. Told r (Makes number target m)) o
made_told r number target (Ok m) = tt
made_told r number target (Err status) = tt

row_told : (k : KernelState) (ec domain : ℕ) (r : Registers) (c : Call) → call_of r ≡ Ok c → IfDone (Told r) (row k ec domain c)
row_told k ec domain r (asks.Call portal flag) is = call_holds (Told r) k ec domain portal flag (λ pt sends. tt) (λ pt helps. tt)
row_told k ec domain r asks.Reply is = reply_holds (Told r) k ec (λ caller mark replies. tt)
row_told k ec domain r (asks.CreatePd target pd first) is = create_pd_holds (Told r) k domain target pd first (opens_told k r target first)
row_told k ec domain r (asks.CreateEc target pd cpu kind sp event) is = makes_each (Told r) k domain CREATE_EC target pd _ (λ owner m idle. made_told r CREATE_EC target _)
row_told k ec domain r (asks.CreateSc target pd its quantum priority) is = makes_each (Told r) k domain CREATE_SC target pd _ (λ owner m idle. made_told r CREATE_SC target _)
row_told k ec domain r (asks.CreatePt target pd handler mtd ip) is = makes_each (Told r) k domain CREATE_PT target pd _ (λ owner m idle. made_told r CREATE_PT target _)
row_told k ec domain r (asks.CreateSm target pd count) is = makes_each (Told r) k domain CREATE_SM target pd (λ owner. Ok (new.Sm count)) (λ owner m idle. tt)
row_told k ec domain r (asks.Revoke range own) is = tt
row_told k ec domain r (asks.Lookup range) is = λ h. absurd (cc)
row_told k ec domain r (asks.EcCtrl other) is = named_holds (Told r) (named k domain is_ec control_right other) (λ n. Recalls n) (λ n. tt)
row_told k ec domain r (asks.ScCtrl sc) is =
    named_holds (Told r) (named k domain is_sc control_right sc) (λ n. Tells SC_CTRL (ticks_in (budget_at k n))) (λ n h. sym (read_numbered r (asks.ScCtrl sc) is))
row_told k ec domain r (asks.PtCtrl pt identifier) is = named_holds (Told r) (named k domain is_pt control_right pt) (λ n. Names n identifier) (λ n. tt)
row_told k ec domain r (asks.SmCtrl sm action) is =
    sm_ctrl_holds (Told r) k ec domain sm action (λ n whom names wakes. tt) (λ n names answers. tt) (λ n until names answers till. tt)

deed_told : (k : KernelState) (ec : ℕ) → Told (context k ec).regs (deed k ec)
deed_told k ec =
    deed_holds (Told (context k ec).regs) k ec tt
    (record {
      steps = tt;
      raises = λ reason q0 q1. tt;
      dies = λ reason q0. tt;
      refuses = λ number status. tt;
      waits = λ pt reason q0 q1 is. tt;
      sends = λ pt reason q0 q1 is. tt;
      aborts = λ handler is. tt;
      removes = λ range own leaf is next. tt;
      returns = λ range own is next. tt;
      rows = λ asks c is. row_told k ec (pd_of k ec) (context k ec).regs c is;
    })
    (record { gives = λ d x g. tt; skips = λ d reason place is. tt; finishes = λ v end answer present is. tt })

tests_equal : (m n : ℕ) → m ≡ n → (m == n) ≡ false → ⊥
tests_equal m n same differ = eqb-false m n differ same

by_call : (r : Registers) (d : Deed) → Told r d → (reg r 17 == SC_CTRL) ≡ false → tells_ticks d ≡ false
by_call r (Tells call value) told other = by_test (call == SC_CTRL) told
  where
    by_test : (t : Bool) → (t ≡ true → reg r 17 ≡ SC_CTRL) → t ≡ false
    by_test false h = refl
    by_test true h = absurd (tests_equal (reg r 17) SC_CTRL (h refl) other)
by_call r d told other = refl

pub told_by_number : (k : KernelState) (ec : ℕ) → (reg (context k ec).regs 17 == SC_CTRL) ≡ false → tells_ticks (deed k ec) ≡ false
told_by_number k ec other = by_call (context k ec).regs (deed k ec) (deed_told k ec) other

-- BY EVENTS

by_sign : (d : Deed) → answers_ticks (sign_of d).0 (sign_of d).1 ≡ false → tells_ticks d ≡ false
by_sign (Tells call value) none = none
by_sign d none = refl

pub told_by_event : (k : KernelState) (cpu : ℕ) → may_tell_ticks (answer_of (turn k cpu)) ≡ false → TellsNoTicks k cpu
told_by_event k cpu none = by_next (next_to_act k cpu) refl
  where
    by_next : (o : Option Candidate) → next_to_act k cpu ≡ o → IfSome o (λ (c : Candidate). tells_ticks (deed k c.actor) ≡ false)
    by_next None next = tt
    by_next (Some c) next = by_sign (deed k c.actor) (sym (ap may_tell_ticks (answers k cpu c next)) ∙ none)
