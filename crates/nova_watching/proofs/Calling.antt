-- Who makes a hypercall in a turn: which is seen of the event.
use Rattle.std.proofs.Common.{◌≡◌, ℕ, refl, sym, ap, ◌∙◌}
use Rattle.std.specs.Prelude.{◌==◌, ◌&&◌, Bool, true, false, not, nat_lt, Option, Some, None, Result, Ok, Err}
use Rattle.std.proofs.lemmas.Bool.{and_parts, eqb-true, not_from_false}
use Rattle.rv_model.specs.Registers.{Registers}
use Rattle.rv_model.specs.Step.{Once, Raised, Went, environment_call}
use Rattle.nova_calls.specs.Hypercalls.{call_of}
use Rattle.nova_calls.specs.declared.call.Call.{Call}
use Rattle.nova_calls.specs.declared.call.Call.TheVariants.{CreatePd, CreateEc, CreateSc, CreatePt, CreateSm, Revoke}
use Rattle.nova_calls.specs.declared.numbers.TheConstants.{CREATE_EC, CREATE_PT, CREATE_SC, CREATE_SM}
use Rattle.nova_range.specs.declared.range.Range.{Range}
use Rattle.nova_range.specs.declared.rights.Rights.{Rights}
use Rattle.nova_range.specs.declared.status.Status.{Status}
use Rattle.nova_range.specs.declared.status.Status.TheVariants.{BadCap, BadCpu, Busy}
use Rattle.nova_model.specs.Capabilities.{bind_portal_right, bind_scheduling_right, is_local, is_schedulable, named}
use Rattle.nova_model.specs.Deeds.{deed, deed_in, instruction, ready, sign_of, signalled, stepping}
use Rattle.nova_model.specs.Hypercalls.{and_then, hypercall, is_scheduled, maker, makes, new_domain, row, unless, unless_busy}
use Rattle.nova_model.specs.Running.{is_revoked}
use Rattle.nova_model.specs.State.{KernelState, context, is_thread, pd_of, processor_of}
use Rattle.nova_model.specs.declared.context.State.{State}
use Rattle.nova_model.specs.declared.context.State.TheVariants.{Helping, Ready}
use Rattle.nova_model.specs.declared.deed.Deed.{Deed}
use Rattle.nova_model.specs.declared.deed.Deed.TheVariants.{Makes}
use Rattle.nova_model.specs.declared.event.EventKind.{EventKind}
use Rattle.nova_model.specs.declared.new_object.NewObject.{NewObject}
use Rattle.nova_model.specs.declared.new_object.NewObject.TheVariants as new
use Rattle.law_forest.proofs.Walk.{IfDone, hypercall_holds}
use Rattle.law_turns.specs.Asked.{IsCalling}
use Rattle.law_integrity.specs.Rights.{Again, AtCall, IsAsking}
use Rattle.nova_flowing.specs.Working.{kind_of}
use Rattle.nova_flowing.specs.declared.lapse.LapseKind.{LapseKind}
use Rattle.nova_watching.specs.Worked.{asks_in, is_instruction}

pub not_both : {A : Type 0} (b : Bool) → b ≡ true → b ≡ false → A
not_both true passes fails = absurd (cc)
not_both false passes fails = absurd (cc)

-- WHAT COMES OF CREATES AND REVOKES IS NO INSTRUCTION

abbrev Answers : Deed → Type 0
Answers d = is_instruction (sign_of d).0 ≡ false

next_done : {A : Type 0} (o : Result A Status) (f : A → Result Deed Status) → ((x : A) → IfDone Answers (f x)) → IfDone Answers (and_then o f)
next_done (Err status) f h = tt
next_done (Ok x) f h = h x

unless_done : (t : Bool) (status : Status) (d : Deed) → Answers d → IfDone Answers (unless t status (Ok d))
unless_done true status d h = tt
unless_done false status d h = h

makes_answers : (k : KernelState) (domain call target selector : ℕ) (made : ℕ → Result NewObject Status) → IfDone Answers (makes k domain call target selector made)
makes_answers k domain call target selector made =
    next_done (maker k domain target selector) (λ owner. and_then (made owner) (λ o. unless_busy k domain target (Makes call target o))) (λ owner.
    next_done (made owner) (λ o. unless_busy k domain target (Makes call target o)) (λ o. unless_done (is_revoked k domain target) Busy (Makes call target o) refl))

domain_answers : (k : KernelState) (target : ℕ) (first : Option (Range × Rights)) → Answers (new_domain k target first)
domain_answers k target None = refl
domain_answers k target (Some range) = refl

row_answers : (k : KernelState) (ec domain : ℕ) (c : Call) (kind : LapseKind) → kind_of (Ok c) ≡ Some kind → IfDone Answers (row k ec domain c)
row_answers k ec domain (CreatePd target pd first) kind is =
    next_done (maker k domain target pd) (λ owner. unless_busy k domain target (new_domain k target first)) (λ owner.
    unless_done (is_revoked k domain target) Busy (new_domain k target first) (domain_answers k target first))
row_answers k ec domain (CreateEc target pd cpu its sp event) kind is = makes_answers k domain CREATE_EC target pd (λ owner. unless (not (nat_lt cpu k.cpus)) BadCpu (Ok (new.Ec owner cpu its sp event)))
row_answers k ec domain (CreateSc target pd whose quantum priority) kind is =
    makes_answers k domain CREATE_SC target pd
    (λ owner. and_then (named k domain is_schedulable bind_scheduling_right whose) (λ e. unless (is_scheduled k e) BadCap (Ok (new.Sc e (processor_of k e) priority quantum))))
row_answers k ec domain (CreatePt target pd handler mtd ip) kind is = makes_answers k domain CREATE_PT target pd (λ owner. and_then (named k domain is_local bind_portal_right handler) (λ h. Ok (new.Pt h mtd.0 ip)))
row_answers k ec domain (CreateSm target pd count) kind is = makes_answers k domain CREATE_SM target pd (λ owner. Ok (new.Sm count))
row_answers k ec domain (Revoke range own) kind is = refl
row_answers k ec domain other kind is = absurd (cc)

call_answers : (k : KernelState) (ec domain : ℕ) (r : Registers) (kind : LapseKind) → kind_of (call_of r) ≡ Some kind → Answers (hypercall k ec domain r)
call_answers k ec domain r kind h = hypercall_holds Answers k ec domain r (λ call status. refl) (λ c is. row_answers k ec domain c kind (sym (ap kind_of is) ∙ h))

-- WHO ASKS

module _ (k : KernelState) (ec : ℕ) where
  abbrev sign : EventKind
  sign = (sign_of (deed k ec)).0

  -- one that is ready makes a hypercall where no instruction comes of its turn
  calling_from : (context k ec).state ≡ Ready → not (is_instruction (sign_of (deed_in k ec Ready)).0) ≡ true → IsCalling k ec
  calling_from state h = by_recall (context k ec).recall refl h
    where
      by_signal : (context k ec).recall ≡ false → (reason q0 q1 : ℕ) → instruction k ec ≡ Raised reason q0 q1 → (t : Bool) → ((reason == environment_call) && is_thread k ec) ≡ t →
          not (is_instruction (sign_of (signalled k ec reason q0 q1 t)).0) ≡ true → IsCalling k ec
      by_signal none reason q0 q1 at false is says = absurd (cc)
      by_signal none reason q0 q1 at true is says =
          let parts = and_parts (reason == environment_call) (is_thread k ec) is in
          record { state = state; recall = none; thread = parts.1; q0 = q0; q1 = q1; raises = at ∙ ap (λ (n : ℕ). Raised n q0 q1) (eqb-true reason environment_call parts.0) }

      by_once : (context k ec).recall ≡ false → (o : Once) → instruction k ec ≡ o → not (is_instruction (sign_of (stepping k ec o)).0) ≡ true → IsCalling k ec
      by_once none (Went regs store) at says = absurd (cc)
      by_once none (Raised reason q0 q1) at says = by_signal none reason q0 q1 at ((reason == environment_call) && is_thread k ec) refl says

      by_recall : (t : Bool) → (context k ec).recall ≡ t → not (is_instruction (sign_of (ready k ec t)).0) ≡ true → IsCalling k ec
      by_recall true is says = absurd (cc)
      by_recall false none says = by_once none (instruction k ec) refl says

  pub asking_from : asks_in (context k ec).state sign ≡ true → IsAsking k ec
  unfolding deed
  asking_from h = by_state (context k ec).state refl h
    where
      by_state : (s : State) → (context k ec).state ≡ s → asks_in s (sign_of (deed_in k ec (context k ec).state)).0 ≡ true → IsAsking k ec
      by_state Ready is says = AtCall (calling_from is (sym (ap (λ (s : State). not (is_instruction (sign_of (deed_in k ec s)).0)) is) ∙ says))
      by_state (Helping handler) is says = Again handler is
      by_state other is says = absurd (cc)

  -- who calls does its hypercall
  calling_does : IsCalling k ec → deed k ec ≡ hypercall k ec (pd_of k ec) (context k ec).regs
  unfolding deed
  calling_does c =
      ap (deed_in k ec) c.state ∙ ap (ready k ec) c.recall ∙ ap (stepping k ec) c.raises
      ∙ ap (λ (t : Bool). signalled k ec environment_call c.q0 c.q1 ((environment_call == environment_call) && t)) c.thread

  pub from_asking : (kind : LapseKind) → kind_of (call_of (context k ec).regs) ≡ Some kind → IsAsking k ec → asks_in (context k ec).state sign ≡ true
  from_asking kind h (AtCall c) =
      ap (λ (s : State). asks_in s sign) c.state
      ∙ not_from_false (is_instruction sign) (ap (λ (d : Deed). is_instruction (sign_of d).0) (calling_does c) ∙ call_answers k ec (pd_of k ec) (context k ec).regs kind h)
  from_asking kind h (Again handler is) = ap (λ (s : State). asks_in s sign) is
