-- Two worked rows, computed by the definitions: a wait to a deadline, and an alarm.
use Rattle.std.proofs.Common.{◌≡◌, ℕ, List, [], ◌∷◌, refl}
use Rattle.std.specs.Prelude.{drop, map, replicate, filter, not, Bool, true, false, Option, Some, None}
use Rattle.rv_model.specs.Step.{one}
use Rattle.rv_model.specs.Codes.{instr_of}
use Rattle.nova_calls.specs.Hypercalls.{call_of}
use Rattle.nova_model.specs.Boot.{Image, Scenario, boot}
use Rattle.rv_model.specs.Registers.{reg}
use Rattle.nova_model.specs.Choice.{choice, is_quiet}
use Rattle.nova_model.specs.Hypercalls.{ticks_in}
use Rattle.nova_model.specs.State.{KernelState, budget_at, context}
use Rattle.nova_model.specs.Deeds.{deed}
use Rattle.nova_model.specs.Inputs.{input_of}
use Rattle.nova_model.specs.Runs.{run, trace}
use Rattle.nova_model.specs.Times.{clock, next_entry}
use Rattle.nova_model.specs.Turn.{charged, turn}
use Rattle.nova_model.specs.declared.event.Event.{Event}
use Rattle.nova_model.specs.declared.event.EventKind.{EventKind}
use Rattle.nova_model.specs.declared.event.EventKind.TheVariants as event

abbrev row_a : Scenario
row_a = record {
  cpus = 1;
  ram = 0;
  consoles = 0;
  root = record { pc = 0; sp = 0; priority = 1; quantum = 10 };
  images = record { address = 0; bytes = 147 ∷ 8 ∷ 96 ∷ 0 ∷ 19 ∷ 5 ∷ 0 ∷ 2 ∷ 115 ∷ 0 ∷ 0 ∷ 0 ∷ 147 ∷ 8 ∷ 192 ∷ 0 ∷ 19 ∷ 5 ∷ 0 ∷ 2 ∷ 147 ∷ 5 ∷ 32 ∷ 0 ∷ 19 ∷ 6 ∷ 48 ∷ 0 ∷ 115 ∷ 0 ∷ 0 ∷ 0 ∷ 115 ∷ 0 ∷ 16 ∷ 0 ∷ [] } ∷ [];
  sources = [];
}

abbrev row_b : Scenario
row_b = record {
  cpus = 1;
  ram = 0;
  consoles = 0;
  root = record { pc = 0; sp = 0; priority = 1; quantum = 10 };
  images = record { address = 0; bytes = 147 ∷ 8 ∷ 192 ∷ 0 ∷ 19 ∷ 5 ∷ 48 ∷ 0 ∷ 147 ∷ 5 ∷ 16 ∷ 0 ∷ 115 ∷ 0 ∷ 0 ∷ 0 ∷ 115 ∷ 0 ∷ 16 ∷ 0 ∷ [] } ∷ [];
  sources = record { cpu = 0; first = 6; period = 1; count = 1 } ∷ [];
}

abbrev pub shown : Event → ℕ × ℕ × EventKind × ℕ × ℕ
shown e = (e.sc, e.ec, e.kind, e.a, e.b)

abbrev s : ℕ × ℕ × EventKind × ℕ × ℕ
s = (2, 1, event.Step, 0, 0)

abbrev t : ℕ × ℕ × EventKind × ℕ × ℕ
t = (0, 0, event.Tick, 0, 0)

rows_a : map shown (trace (boot row_a) (replicate 14 0)) ≡ s ∷ s ∷ (2, 1, event.Answer, 6, 0) ∷ s ∷ s ∷ s ∷ s ∷ (2, 1, event.Begin, 12, 3) ∷ t ∷ t ∷ t ∷ (0, 1, event.Late, 3, 1) ∷ (2, 1, event.Raise, 7, 0) ∷ (2, 1, event.Died, 7, 0) ∷ []
unfolding one instr_of call_of choice deed input_of next_entry charged turn
rows_a = refl

rows_b : map shown (trace (boot row_b) (replicate 9 0)) ≡ s ∷ s ∷ s ∷ (2, 1, event.Begin, 12, 3) ∷ t ∷ t ∷ (0, 1, event.Irq, 0, 0) ∷ (2, 1, event.Raise, 7, 0) ∷ (2, 1, event.Died, 7, 0) ∷ []
unfolding one instr_of call_of choice deed input_of next_entry charged turn
rows_b = refl

-- what is left at the end of both: the processor is idle, x10, the ticks, and the capability
abbrev last_a : KernelState
last_a = run (boot row_a) (replicate 14 0)

ends_a : (is_quiet last_a ≡ true) × (reg (context last_a 1).regs 10 ≡ 1) × (ticks_in (budget_at last_a 2) ≡ 10) × (clock last_a.times 0 ≡ 14)
unfolding one instr_of call_of choice deed input_of next_entry charged turn
ends_a = (refl, refl, refl, refl)

abbrev last_b : KernelState
last_b = run (boot row_b) (replicate 9 0)

ends_b : (is_quiet last_b ≡ true) × (ticks_in (budget_at last_b 2) ≡ 6) × (map (λ d. d.rights.0) (drop 4 last_b.delegations.list) ≡ 3 ∷ []) × (map (λ d. d.base) (drop 4 last_b.delegations.list) ≡ 3 ∷ [])
unfolding one instr_of call_of choice deed input_of next_entry charged turn
ends_b = (refl, refl, refl, refl)

-- without any tick
row_none : map shown (trace (boot (record row_a { images = record { address = 0; bytes = 147 ∷ 8 ∷ 96 ∷ 0 ∷ 19 ∷ 5 ∷ 0 ∷ 2 ∷ 115 ∷ 0 ∷ 0 ∷ 0 ∷ 147 ∷ 8 ∷ 192 ∷ 0 ∷ 19 ∷ 5 ∷ 0 ∷ 2 ∷ 147 ∷ 5 ∷ 32 ∷ 0 ∷ 19 ∷ 6 ∷ 0 ∷ 0 ∷ 115 ∷ 0 ∷ 0 ∷ 0 ∷ 115 ∷ 0 ∷ 16 ∷ 0 ∷ [] } ∷ [] })) (replicate 10 0)) ≡ s ∷ s ∷ (2, 1, event.Answer, 6, 0) ∷ s ∷ s ∷ s ∷ s ∷ (2, 1, event.Answer, 12, 1) ∷ (2, 1, event.Raise, 7, 0) ∷ (2, 1, event.Died, 7, 0) ∷ []
unfolding one instr_of call_of choice deed input_of next_entry charged turn
row_none = refl
