-- A call between equals that isn't taken, as `examples/helping_forever.nova` has it: the root makes a handler and another thread of its priority, which calls the handler in a loop; the root
-- calls the handler too, and helps in each of its turns, since the handler is at work for the other then.
use Rattle.std.specs.Prelude.{ℕ, zero, suc, ◌*◌, ◌-◌, ◌^◌, ◌&&◌, Bool, true, false, [], ◌∷◌, Option, Some}
use Rattle.rv_model.specs.declared.instr.Instr.TheVariants.{Addi, Bne, Ebreak, Ecall, Lui, Sw}
use Rattle.nova_model.specs.Boot.{Scenario}
use Rattle.nova_model.specs.Edges.{state_in}
use Rattle.nova_model.specs.Runs.{after}
use Rattle.nova_model.specs.State.{KernelState}
use Rattle.nova_model.specs.declared.context.State.{State}
use Rattle.nova_model.specs.declared.context.State.TheVariants.{Helping}
use Rattle.law_rows.specs.Examples.{program, puts}

abbrev pub callers : Scenario
callers = record {
  cpus = 1;
  ram = 0;
  consoles = 0;
  root = record { pc = 0; sp = 0; priority = 1; quantum = 1 };
  images = program 0 (
      puts 17 3 ∷ puts 10 32 ∷ puts 14 64 ∷ Ecall ∷ puts 17 5 ∷ puts 10 48 ∷ puts 12 32 ∷ puts 14 256 ∷ Ecall ∷ puts 10 33 ∷ puts 14 320 ∷ Ecall
      ∷ puts 17 3 ∷ puts 10 35 ∷ puts 12 256 ∷ puts 14 48 ∷ Ecall ∷ puts 17 4 ∷ puts 10 36 ∷ puts 12 35 ∷ Lui 13 (2 ^ 12) ∷ Addi 13 13 (2 ^ 32 - 1023) ∷ Ecall
      ∷ puts 17 0 ∷ puts 10 33 ∷ Ecall ∷ Ebreak ∷ [])
      ∷ program 256 (Lui 5 (1048575 * 2 ^ 12) ∷ puts 6 2 ∷ Sw 5 6 16 ∷ puts 6 384 ∷ Sw 5 6 28 ∷ puts 17 1 ∷ Ecall ∷ [])
      ∷ program 320 (puts 17 1 ∷ puts 6 0 ∷ puts 6 0 ∷ puts 6 0 ∷ puts 6 0 ∷ puts 6 0 ∷ puts 6 0 ∷ puts 6 0 ∷ Ecall ∷ [])
      ∷ program 384 (puts 17 0 ∷ puts 11 0 ∷ puts 12 0 ∷ puts 20 20 ∷ puts 10 33 ∷ Ecall ∷ Addi 20 20 (2 ^ 32 - 1) ∷ Bne 20 0 (2 ^ 32 - 12) ∷ Ebreak ∷ [])
      ∷ [];
  sources = [];
}

-- an execution context is helping a handler
abbrev pub is_helping : Option State → Bool
is_helping (Some (Helping handler)) = true
is_helping other = false

-- it is so in a state, and after each of `n` turns of processor 0
abbrev pub goes_on_helping : ℕ → ℕ → KernelState → Bool
goes_on_helping ec zero k = is_helping (state_in k.contexts ec)
goes_on_helping ec (suc n) k = is_helping (state_in k.contexts ec) && goes_on_helping ec n (after k 0)
