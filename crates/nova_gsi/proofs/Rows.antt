-- Worked rows, computed by the definitions: one source, two at the same moment, one at a full semaphore, and two at the moment of a deadline.
use Rattle.std.proofs.Common.{◌≡◌, ℕ, List, [], ◌∷◌, refl}
use Rattle.std.specs.Prelude.{Bool, filter, map, replicate, false, true, None, Some}
use Rattle.rv_model.specs.Codes.{instr_of}
use Rattle.rv_model.specs.Step.{one}
use Rattle.nova_calls.specs.Hypercalls.{call_of}
use Rattle.nova_model.specs.Boot.{Scenario, boot}
use Rattle.nova_model.specs.Choice.{choice, is_quiet, next_to_act}
use Rattle.nova_model.specs.Deeds.{deed}
use Rattle.nova_model.specs.Inputs.{input_of}
use Rattle.nova_model.specs.Runs.{run, trace}
use Rattle.nova_model.specs.Semaphores.{semaphore_at}
use Rattle.nova_model.specs.Sources.{Source}
use Rattle.nova_model.specs.State.{KernelState, deadline_of}
use Rattle.nova_model.specs.Times.{clock, next_entry}
use Rattle.nova_model.specs.Turn.{charged, turn}
use Rattle.nova_model.specs.declared.event.EventKind.{EventKind}
use Rattle.nova_model.specs.declared.event.EventKind.TheVariants as event
use Rattle.nova_model.specs.declared.times.Deadline.{Deadline}
use Rattle.law_turns.proofs.RowsComputed.{shown}
use Rattle.nova_gsi.specs.Counters.{total}
use Rattle.nova_gsi.specs.Deadlines.{turns_before}
use Rattle.nova_gsi.specs.Firings.{alarms_of, line, table}

abbrev row : List Source → Scenario
row sources = record {
  cpus = 1;
  ram = 0;
  consoles = 0;
  root = record { pc = 0; sp = 0; priority = 1; quantum = 10 };
  images = record { address = 0; bytes = 147 ∷ 8 ∷ 192 ∷ 0 ∷ 19 ∷ 5 ∷ 48 ∷ 0 ∷ 147 ∷ 5 ∷ 16 ∷ 0 ∷ 115 ∷ 0 ∷ 0 ∷ 0 ∷ 115 ∷ 0 ∷ 16 ∷ 0 ∷ [] } ∷ [];
  sources = sources;
}

abbrev once : Source
once = record { cpu = 0; first = 6; period = 1; count = 1 }

abbrev s : ℕ × ℕ × EventKind × ℕ × ℕ
s = (2, 1, event.Step, 0, 0)

abbrev t : ℕ × ℕ × EventKind × ℕ × ℕ
t = (0, 0, event.Tick, 0, 0)

abbrev last : List Source → ℕ → KernelState
last sources turns = run (boot (row sources)) (replicate turns 0)

-- `source 0 6 1 1`: the report's line is `source 0 0 3 1 0`
one_source : (table (alarms_of (row (once ∷ []))) (trace (boot (row (once ∷ []))) (replicate 9 0)) ≡ record { fired = 1; worst = 0 } ∷ [])
    × (map {B = ℕ × ℕ} (λ a. (a.cpu, a.sm)) (alarms_of (row (once ∷ []))) ≡ (0, 3) ∷ [])
    × (is_quiet (last (once ∷ []) 9) ≡ true) × (semaphore_at (last (once ∷ []) 9).semaphores 3 ≡ Some (record { count = 0; waiting = [] }))
unfolding one instr_of call_of choice deed input_of next_entry charged turn line
one_source = (refl, refl, refl, refl)

-- two of them: `source 0 0 3 1 0` and `source 1 0 4 1 1`
two_events : map shown (trace (boot (row (once ∷ once ∷ []))) (replicate 10 0)) ≡ s ∷ s ∷ s ∷ (2, 1, event.Begin, 12, 3) ∷ t ∷ t ∷ (0, 1, event.Irq, 0, 0) ∷ (0, 0, event.Irq, 1, 0) ∷ (2, 1, event.Raise, 7, 0) ∷ (2, 1, event.Died, 7, 0) ∷ []
unfolding one instr_of call_of choice deed input_of next_entry charged turn
two_events = refl

two_sources : (table (alarms_of (row (once ∷ once ∷ []))) (trace (boot (row (once ∷ once ∷ []))) (replicate 10 0)) ≡ record { fired = 1; worst = 0 } ∷ record { fired = 1; worst = 1 } ∷ [])
    × (map {B = ℕ × ℕ} (λ a. (a.cpu, a.sm)) (alarms_of (row (once ∷ once ∷ []))) ≡ (0, 3) ∷ (0, 4) ∷ [])
    × (is_quiet (last (once ∷ once ∷ []) 10) ≡ true) × (semaphore_at (last (once ∷ once ∷ []) 10).semaphores 3 ≡ Some (record { count = 0; waiting = [] }))
    × (semaphore_at (last (once ∷ once ∷ []) 10).semaphores 4 ≡ Some (record { count = 1; waiting = [] }))
unfolding one instr_of call_of choice deed input_of next_entry charged turn line
two_sources = (refl, refl, refl, refl, refl)

-- the down that waits in the first row ends with SUCCESS in the turn of the alarm, and no event of an answer tells of it
abbrev is_answer : EventKind → Bool
is_answer event.Answer = true
is_answer other = false

waits_once : (total (λ e. e.downs) (boot (row (once ∷ []))) 3 (replicate 9 0) ≡ 1) × (total (λ e. e.irqs) (boot (row (once ∷ []))) 3 (replicate 9 0) ≡ 1)
    × (total (λ e. e.ups) (boot (row (once ∷ []))) 3 (replicate 9 0) ≡ 0)
    × (filter (λ e. is_answer e.kind) (trace (boot (row (once ∷ []))) (replicate 9 0)) ≡ [])
unfolding one instr_of call_of choice deed input_of next_entry next_to_act charged turn
waits_once = (refl, refl, refl, refl)

-- `source 0 0 1 2` at a semaphore with the greatest counter, at which none waits: both alarms have status 3, and the counter stays
abbrev full : KernelState
full = record (boot (row (record { cpu = 0; first = 0; period = 1; count = 2 } ∷ []))) {
  semaphores = None ∷ None ∷ None ∷ Some (record { count = 4294967295; waiting = [] }) ∷ [];
}

overflows : (map shown (trace full (replicate 3 0)) ≡ (0, 0, event.Irq, 0, 3) ∷ (0, 0, event.Irq, 0, 3) ∷ s ∷ [])
    × (semaphore_at (run full (replicate 3 0)).semaphores 3 ≡ Some (record { count = 4294967295; waiting = [] }))
    × (table (alarms_of (row (record { cpu = 0; first = 0; period = 1; count = 2 } ∷ []))) (trace full (replicate 3 0)) ≡ record { fired = 2; worst = 0 } ∷ [])
unfolding one instr_of call_of choice deed input_of next_entry charged turn line
overflows = (refl, refl, refl)

-- a wait to a deadline, at whose moment 8 two alarms ring: it comes in the turn that begins at 10
abbrev waiting : Scenario
waiting = record (row (record { cpu = 0; first = 100; period = 1; count = 1 } ∷ record { cpu = 0; first = 6; period = 1; count = 5 } ∷ record { cpu = 0; first = 8; period = 1; count = 1 } ∷ [])) {
  images = record { address = 0; bytes = 147 ∷ 8 ∷ 192 ∷ 0 ∷ 19 ∷ 5 ∷ 48 ∷ 0 ∷ 147 ∷ 5 ∷ 32 ∷ 0 ∷ 19 ∷ 6 ∷ 48 ∷ 0 ∷ 115 ∷ 0 ∷ 0 ∷ 0 ∷ 115 ∷ 0 ∷ 16 ∷ 0 ∷ [] } ∷ [];
}

abbrev deadline : Deadline
deadline = record { cpu = 0; sm = 3; at = 8 }

abbrev at_moment : KernelState
at_moment = run (boot waiting) (replicate 8 0)

two_before : (deadline_of at_moment.times 1 ≡ Some deadline) × (clock at_moment.times 0 ≡ 8) × (turns_before at_moment.times 1 deadline ≡ 2)
    × (map shown (trace at_moment (replicate 3 0)) ≡ (0, 0, event.Irq, 1, 0) ∷ (0, 0, event.Irq, 2, 0) ∷ (0, 1, event.Late, 3, 1) ∷ [])
unfolding one instr_of call_of choice deed input_of next_entry charged turn
two_before = (refl, refl, refl, refl)
