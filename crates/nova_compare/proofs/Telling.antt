-- Turns that tell no ticks, by who acts and what x17 is.
use Rattle.std.proofs.Common.{◌≡◌, ◌∙◌, ℕ, ap, sym, subst}
use Rattle.std.specs.Prelude.{false, ◌==◌, Option, Some, None, IfSome, option_map}
use Rattle.rv_model.specs.Registers.{reg}
use Rattle.nova_calls.specs.declared.numbers.TheConstants.{SC_CTRL}
use Rattle.nova_model.specs.Choice.{Candidate, choice, next_to_act, unless_due}
use Rattle.nova_model.specs.Deeds.{deed}
use Rattle.nova_model.specs.State.{KernelState, context, context_at, context_in}
use Rattle.nova_model.specs.Times.{due_on}
use Rattle.nova_model.specs.declared.context.EcState.{EcState}
use Rattle.nova_model.specs.declared.times.Due.{Due}
use Rattle.law_alike.specs.Alike.{TellsNoTicks, tells_ticks}

number_of : (k : KernelState) (ec : ℕ) (o : Option EcState) → context_at k ec ≡ o → (reg (context k ec).regs 17 == SC_CTRL) ≡ (reg (context_in o).regs 17 == SC_CTRL)
number_of k ec o is = ap (λ (p : Option EcState). reg (context_in p).regs 17 == SC_CTRL) is

pub asks_not : ((k : KernelState) (ec : ℕ) → (reg (context k ec).regs 17 == SC_CTRL) ≡ false → tells_ticks (deed k ec) ≡ false) →
    (k : KernelState) (ec : ℕ) (x : EcState) → context_at k ec ≡ Some x → (reg x.regs 17 == SC_CTRL) ≡ false → tells_ticks (deed k ec) ≡ false
asks_not law k ec x is other = law k ec (number_of k ec (Some x) is ∙ other)

pub nobody_asks : ((k : KernelState) (ec : ℕ) → (reg (context k ec).regs 17 == SC_CTRL) ≡ false → tells_ticks (deed k ec) ≡ false) →
    (k : KernelState) (ec : ℕ) → context_at k ec ≡ None → tells_ticks (deed k ec) ≡ false
nobody_asks law k ec is = law k ec (number_of k ec None is)

-- where it is so of whom that is chosen, unless something is due
abbrev TellsNone : KernelState → Option ℕ → Type 0
TellsNone k o = IfSome o (λ (ec : ℕ). tells_ticks (deed k ec) ≡ false)

chosen_tells_none : (k : KernelState) (cpu : ℕ) (o : Option ℕ) → option_map (λ (c : Candidate). c.actor) (choice k cpu) ≡ o → TellsNone k o → TellsNoTicks k cpu
unfolding next_to_act
chosen_tells_none k cpu o acts none = by_choice (due_on k.times cpu) (choice k cpu) (subst (TellsNone k) (sym acts) none)
  where
    by_choice : (d : Option Due) (c : Option Candidate) → TellsNone k (option_map (λ (x : Candidate). x.actor) c) → IfSome (unless_due d c) (λ (x : Candidate). tells_ticks (deed k x.actor) ≡ false)
    by_choice (Some what) c is = tt
    by_choice None None is = tt
    by_choice None (Some x) is = is

pub nobody_tells : (k : KernelState) (cpu : ℕ) → option_map (λ (c : Candidate). c.actor) (choice k cpu) ≡ None → TellsNoTicks k cpu
nobody_tells k cpu none = chosen_tells_none k cpu None none tt

pub actor_tells_none : (k : KernelState) (cpu ec : ℕ) → option_map (λ (c : Candidate). c.actor) (choice k cpu) ≡ Some ec → tells_ticks (deed k ec) ≡ false → TellsNoTicks k cpu
actor_tells_none k cpu ec acts none = chosen_tells_none k cpu (Some ec) acts none
