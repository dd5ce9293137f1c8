-- The state that a plain step leaves, part by part.
use Rattle.std.proofs.Common.{◌≡◌, ℕ, ◌+◌, ap, ◌∙◌}
use Rattle.std.specs.Prelude.{Option, Some, None, option_map}
use Rattle.rv_model.specs.Registers.{Registers}
use Rattle.rv_model.specs.Step.{Once, Store, Went}
use Rattle.nova_model.specs.Choice.{Candidate, next_to_act}
use Rattle.nova_model.specs.Deeds.{address_space, deed, deed_in, instruction, ready, stepping}
use Rattle.nova_model.specs.Inputs.{is_stirred, store_of}
use Rattle.nova_model.specs.Runs.{after}
use Rattle.nova_model.specs.State.{KernelState, Stirs, context, with_ec}
use Rattle.nova_model.specs.Times.{ticked}
use Rattle.nova_model.specs.declared.deed.Deed.TheVariants.{Steps}
use Rattle.law_forest.specs.Effects.{Effect, effect, put, steps_by, store_words}
use Rattle.law_forest.specs.Turns.{budgets_charged, stamp_charged, turned}
use Rattle.law_forest.proofs.Turning.{chosen_turn}
use Rattle.law_swaps.specs.Touches.{Executes}
use Rattle.law_swaps.proofs.Storing.{memory_after}

-- with these registers and this store, charged and counted
abbrev pub stepped_by : KernelState → ℕ → Candidate → Registers → Option Store → Stirs → KernelState
stepped_by k cpu c regs store stirs = record k {
  contexts = with_ec k.contexts c.actor (record (context k c.actor) { regs = regs });
  messages = put k.messages (store_words (address_space k c.actor) c.actor store);
  memory = memory_after (address_space k c.actor) k.memory store;
  budgets = budgets_charged k.objects k.budgets k.next_stamp (Some c.sc);
  next_stamp = stamp_charged k.budgets k.next_stamp (Some c.sc);
  turns = k.turns + 1;
  stirs = stirs;
  times = ticked k.times cpu;
}

pub record IsStepped (k new : KernelState) (cpu : ℕ) (c : Candidate) (regs : Registers) (store : Option Store) : Type 0 where
  pub stirs : Stirs
  pub is : new ≡ stepped_by k cpu c regs store stirs

pub does_step : (k : KernelState) (ec : ℕ) (regs : Registers) (store : Option Store) → Executes (context k ec) → instruction k ec ≡ Went regs store → deed k ec ≡ Steps
unfolding deed
does_step k ec regs store at went = ap (deed_in k ec) at.state ∙ (ap (ready k ec) at.recall ∙ ap (stepping k ec) went)

-- the effect of an instruction
abbrev effect_by : KernelState → ℕ → Once → Effect
effect_by k ec o = record {
  made = None;
  branch = None;
  edits = steps_by ec o;
  words = store_words (address_space k ec) ec (store_of o);
  transfer = None;
  identifier = None;
  semaphore = None;
  store = option_map (λ s. (address_space k ec, s)) (store_of o);
  deadline = None;
  rings = None;
}

pub effect_is : (k : KernelState) (ec : ℕ) (regs : Registers) (store : Option Store) → deed k ec ≡ Steps → instruction k ec ≡ Went regs store →
    effect k ec (deed k ec) ≡ effect_by k ec (Went regs store)
effect_is k ec regs store does went = ap (effect k ec) does ∙ ap (effect_by k ec) went

pub step_is : (k : KernelState) (cpu : ℕ) (c : Candidate) (regs : Registers) (store : Option Store) → next_to_act k cpu ≡ Some c → Executes (context k c.actor) →
    instruction k c.actor ≡ Went regs store → IsStepped k (after k cpu) cpu c regs store
step_is k cpu c regs store next at went = record {
  stirs = (turned k cpu (record { effect = effect_by k c.actor (Went regs store); stirs = is_stirred k c.actor (deed k c.actor); charge = Some c.sc })).stirs;
  is = chosen_turn k cpu c next
      ∙ ap (λ (e : Effect). turned k cpu (record { effect = e; stirs = is_stirred k c.actor (deed k c.actor); charge = Some c.sc }))
      (effect_is k c.actor regs store (does_step k c.actor regs store at went) went);
}
