-- What a turn does of its deed, from deciding to doing.
use Rattle.std.proofs.Common.{◌≡◌, ℕ, refl, ap, sym, ◌∙◌, subst}
use Rattle.std.specs.Prelude.{◌&&◌, Bool, true, false, not}
use Rattle.rv_model.specs.Step.{Once, Raised, Went}
use Rattle.rv_core.specs.declared.outcome.Outcome.TheVariants.{Raise}
use Rattle.nova_model.specs.Deeds.{instruction, ready, recall, stepping, stepped, done, deed, deed_in}
use Rattle.nova_model.specs.State.{KernelState, context, pd_of}
use Rattle.nova_model.specs.declared.context.State.{State}
use Rattle.nova_model.specs.declared.context.State.TheVariants.{Ready}
use Rattle.nova_model.specs.declared.deed.Deed.{Deed}
use Rattle.nova_model.specs.declared.deed.Deed.TheVariants.{Steps, Raises}
use Rattle.law_forest.specs.Made.{TakesFree}
use Rattle.law_forest.proofs.Allowed.{deed_free}
use Rattle.nova_deeds.specs.Acts.{outcome_of, is_executing}
use Rattle.nova_choice.specs.Schedules.{is_ready}

-- an instruction that raises leaves all as it was
raises : (k : KernelState) (ec : ℕ) (o : Once) (reason q0 q1 : ℕ) → outcome_of o ≡ Raise reason q0 q1 → (o ≡ Raised reason q0 q1) × (stepped k ec o ≡ k)
raises k ec (Raised reason' q0' q1') reason q0 q1 is = (cc, refl)
raises k ec (Went regs store) reason q0 q1 is = absurd (cc)

pub raise-stays : (k new : KernelState) (ec : ℕ) (reason q0 q1 : ℕ) → outcome_of (instruction k ec) ≡ Raise reason q0 q1 → new ≡ done k ec Steps → new ≡ k
raise-stays k new ec reason q0 q1 is steps = steps ∙ (raises k ec (instruction k ec) reason q0 q1 is).1

-- a deed is done from the state that it was decided in
pub act-does : (k mid new : KernelState) (ec : ℕ) (d : Deed) → mid ≡ k → new ≡ done mid ec d → new ≡ done k ec d
act-does k mid new ec d same h = subst (λ (s : KernelState). new ≡ done s ec d) same h

-- the selector that a deed takes is free
pub takes-free : (k : KernelState) (ec : ℕ) (d : Deed) → d ≡ deed k ec → TakesFree k (pd_of k ec) d
takes-free k ec d is = subst (TakesFree k (pd_of k ec)) (sym is) (deed_free k ec)

-- of a context that does an instruction next, and of a context whose recall comes before it
pub executing-deed : (k : KernelState) (ec : ℕ) → is_executing (context k ec) ≡ true → deed k ec ≡ stepping k ec (instruction k ec)
unfolding deed
executing-deed k ec h = by_state (context k ec).state h
  where
    by_recall : (r : Bool) → not r ≡ true → ready k ec r ≡ stepping k ec (instruction k ec)
    by_recall true h = absurd cc
    by_recall false h = refl

    by_state : (s : State) → (is_ready s && not (context k ec).recall) ≡ true → deed_in k ec s ≡ stepping k ec (instruction k ec)
    by_state Ready h = by_recall (context k ec).recall h
    by_state other h = absurd cc

pub recall-deed : (k : KernelState) (ec : ℕ) → is_executing (context k ec) ≡ false → (context k ec).state ≡ Ready → deed k ec ≡ Raises recall 0 0
unfolding deed
recall-deed k ec h is =
    ap (deed_in k ec) is ∙ by_recall (context k ec).recall (subst (λ (s : State). (is_ready s && not (context k ec).recall) ≡ false) is h)
  where
    by_recall : (r : Bool) → not r ≡ false → ready k ec r ≡ Raises recall 0 0
    by_recall true h = refl
    by_recall false h = absurd cc
