-- Two runs of small programs, and a revoke, each with what comes of it turn by turn.
use Rattle.std.specs.Prelude.{ℕ, zero, suc, ◌+◌, ◌*◌, ◌^◌, ◌==◌, Bool, true, false, List, [], ◌∷◌, map, Option, Some, None, option_map, if◌then◌else◌}
use Rattle.std.specs.List.{concat}
use Rattle.byteorder.specs.Endian.{little_bytes}
use Rattle.rv_model.specs.Codes.{word_of}
use Rattle.rv_model.specs.Registers.{Registers}
use Rattle.rv_model.specs.declared.instr.Instr.{Instr}
use Rattle.rv_model.specs.declared.instr.Instr.TheVariants.{Addi, Ebreak, Ecall, Lui, Lw, Sb, Sw}
use Rattle.nova_model.specs.Boot.{Image, Scenario}
use Rattle.nova_model.specs.Choice.{in_front, is_quiet}
use Rattle.nova_model.specs.Delegations.{Delegations, id_of, is_memory}
use Rattle.nova_model.specs.Hypercalls.{ticks_in}
use Rattle.nova_model.specs.Revokes.{Revocation, next_leaf, revoked}
use Rattle.nova_model.specs.Semaphores.{semaphore}
use Rattle.nova_model.specs.State.{KernelState, budget_at, context}
use Rattle.nova_model.specs.declared.delegation.Derivation.{Derivation}
use Rattle.nova_model.specs.declared.event.Event.{Event}
use Rattle.nova_model.specs.declared.event.EventKind.{EventKind}
use Rattle.nova_model.specs.declared.event.EventKind.TheVariants as event
use Rattle.nova_model.specs.declared.log.LogByte.{LogByte}
use Rattle.nova_range.specs.declared.range.Kind.TheVariants.{Mem}

-- WHAT IS SHOWN

-- of events all but steps: place from 1, execution context, kind and both numbers
abbrev pub Shown : Type 0
Shown = ℕ × ℕ × EventKind × ℕ × ℕ

abbrev pub is_step : EventKind → Bool
is_step event.Step = true
is_step other = false

abbrev pub shown_from : ℕ → List Event → List Shown
shown_from place [] = []
shown_from place (e ∷ es) = if is_step e.kind then shown_from (place + 1) es else (place, e.ec, e.kind, e.a, e.b) ∷ shown_from (place + 1) es

abbrev pub shown : List Event → List Shown
shown events = shown_from 1 events

-- of registers those that aren't 0, by number
abbrev pub set_from : ℕ → List ℕ → List (ℕ × ℕ)
set_from n [] = []
set_from n (x ∷ xs) = if x == 0 then set_from (n + 1) xs else (n, x) ∷ set_from (n + 1) xs

abbrev pub set_registers : Registers → ℕ × List (ℕ × ℕ)
set_registers r = (r.pc, set_from 0 r.x)

-- of a derivation: id, parent, domain, whether it is of memory, base, order, rights and target
abbrev pub Cap : Type 0
Cap = ℕ × Option ℕ × ℕ × Bool × ℕ × ℕ × ℕ × ℕ

abbrev pub cap : Derivation → Cap
cap d = (d.id, d.parent, d.pd, is_memory d.kind, d.base, d.order, d.rights.0, d.target)

-- of a state: whether it is quiet, registers of some execution contexts, ticks of some scheduling contexts, counters of some semaphores, what was put
-- out, and all derivations
pub record Left : Type 0 where
  pub quiet : Bool
  pub registers : List (ℕ × List (ℕ × ℕ))
  pub ticks : List ℕ
  pub counters : List ℕ
  pub console : List ℕ
  pub caps : List Cap

abbrev pub left : List ℕ → List ℕ → List ℕ → KernelState → Left
left ecs scs sms k = record {
  quiet = is_quiet k;
  registers = map (λ (ec : ℕ). set_registers (context k ec).regs) ecs;
  ticks = map (λ (sc : ℕ). ticks_in (budget_at k sc)) scs;
  counters = map (λ (sm : ℕ). (semaphore k.semaphores sm).count) sms;
  console = map (λ (b : LogByte). b.value) k.memory.log;
  caps = map cap k.delegations.list;
}

-- PROGRAMS

abbrev pub puts : ℕ → ℕ → Instr
puts rd n = Addi rd 0 n

abbrev pub program : ℕ → List Instr → Image
program address code = record { address = address; bytes = concat (map (λ i. little_bytes 4 (word_of i)) code) }

abbrev pub machine : ℕ → ℕ → List Image → Scenario
machine ram consoles images = record {
  cpus = 1;
  ram = ram;
  consoles = consoles;
  root = record { pc = 0; sp = 0; priority = 1; quantum = 10 };
  images = images;
  sources = [];
}

-- The root makes a handler, portals for startup and for calls, a semaphore, and a thread of greater priority, which blocks at the semaphore. It calls
-- the handler, which ups the semaphore; so the thread runs, calls the handler too, and helps it to finish the root's call first.
abbrev pub helping : Scenario
helping = machine 1 0 (
    program 0 (
    puts 17 3 ∷ puts 10 32 ∷ puts 14 64 ∷ Ecall ∷ puts 17 5 ∷ puts 10 48 ∷ puts 12 32 ∷ puts 14 512 ∷ Ecall
    ∷ puts 10 33 ∷ puts 14 576 ∷ Ecall ∷ puts 17 6 ∷ puts 10 34 ∷ puts 12 0 ∷ Ecall
    ∷ puts 17 3 ∷ puts 10 35 ∷ puts 12 256 ∷ puts 14 48 ∷ Ecall ∷ puts 17 4 ∷ puts 10 36 ∷ puts 12 35 ∷ puts 13 1794 ∷ Ecall
    ∷ puts 17 0 ∷ puts 10 33 ∷ Ecall ∷ Ebreak ∷ [])
    ∷ program 512 (
    Lui 5 (1048575 * 2 ^ 12) ∷ puts 6 2 ∷ Sw 5 6 16 ∷ puts 6 640 ∷ Sw 5 6 28 ∷ puts 17 1 ∷ Ecall ∷ [])
    ∷ program 576 (
    puts 17 12 ∷ puts 10 34 ∷ puts 11 0 ∷ Ecall ∷ puts 17 1 ∷ Ecall ∷ [])
    ∷ program 640 (
    puts 17 12 ∷ puts 10 34 ∷ puts 11 1 ∷ Ecall ∷ puts 17 0 ∷ puts 10 33 ∷ puts 11 0 ∷ Ecall ∷ Ebreak ∷ []) ∷ [])

abbrev pub helping_shows : List Shown
helping_shows =
    (4, 1, event.Answer, 3, 0) ∷ (9, 1, event.Answer, 5, 0) ∷ (12, 1, event.Answer, 5, 0) ∷ (16, 1, event.Answer, 6, 0) ∷ (21, 1, event.Answer, 3, 0)
    ∷ (26, 1, event.Answer, 4, 0) ∷ (27, 7, event.Raise, 0, 0) ∷ (28, 7, event.Sent, 0, 3) ∷ (35, 3, event.Answer, 1, 0) ∷ (39, 7, event.Begin, 12, 6)
    ∷ (42, 1, event.Begin, 0, 3) ∷ (46, 3, event.Answer, 12, 0) ∷ (50, 7, event.Help, 3, 0) ∷ (52, 3, event.Answer, 1, 0) ∷ (53, 7, event.Begin, 0, 3)
    ∷ (57, 3, event.Answer, 12, 0) ∷ (59, 3, event.Answer, 1, 0) ∷ (60, 7, event.Raise, 7, 0) ∷ (61, 7, event.Died, 7, 0) ∷ (62, 1, event.Raise, 7, 0)
    ∷ (63, 1, event.Died, 7, 0) ∷ []

abbrev pub helping_leaves : Left
helping_leaves = record {
  quiet = true;
  registers = (116, (12, 35) ∷ (13, 1794) ∷ (14, 48) ∷ []) ∷ (596, (5, 4294963200) ∷ (6, 640) ∷ (17, 1) ∷ []) ∷ (672, []) ∷ [];
  ticks = 35 ∷ 28 ∷ [];
  counters = 1 ∷ [];
  console = [];
  caps = (0, None, 0, true, 0, 1, 7, 0) ∷ (1, None, 0, false, 0, 0, 1, 0) ∷ (2, None, 0, false, 1, 0, 7, 1) ∷ (3, None, 0, false, 2, 0, 1, 2) ∷ (4, None, 0, false, 32, 0, 7, 3)
      ∷ (5, None, 0, false, 48, 0, 7, 4) ∷ (6, None, 0, false, 33, 0, 7, 5) ∷ (7, None, 0, false, 34, 0, 3, 6) ∷ (8, None, 0, false, 35, 0, 7, 7) ∷ (9, None, 0, false, 36, 0, 1, 8) ∷ [];
}

-- The root makes a monitor, portals for startup, fetch faults and ECALL, a domain with these, and a virtual CPU there. The monitor starts it, gives
-- it a page by its reply to the fault, and writes what is in its x10 at the ECALL to the console.
abbrev pub watching : Scenario
watching = machine 2 1 (
    program 0 (
    puts 17 3 ∷ puts 10 32 ∷ puts 14 48 ∷ Ecall ∷ puts 17 5 ∷ puts 10 64 ∷ puts 12 32 ∷ puts 14 256 ∷ Ecall
    ∷ puts 10 66 ∷ puts 14 320 ∷ Ecall ∷ puts 10 70 ∷ puts 13 6 ∷ puts 14 384 ∷ Ecall
    ∷ puts 17 2 ∷ puts 10 33 ∷ Lui 12 (64 * 2 ^ 12) ∷ Addi 12 12 531 ∷ Ecall
    ∷ puts 17 3 ∷ puts 10 34 ∷ puts 11 33 ∷ puts 12 512 ∷ puts 13 0 ∷ puts 14 64 ∷ Ecall
    ∷ puts 17 4 ∷ puts 10 35 ∷ puts 12 34 ∷ puts 13 1794 ∷ Ecall ∷ Ebreak ∷ [])
    ∷ program 256 (
    Lui 5 (1048575 * 2 ^ 12) ∷ puts 6 2 ∷ Sw 5 6 16 ∷ puts 17 1 ∷ Ecall ∷ [])
    ∷ program 320 (
    Lui 6 (16 * 2 ^ 12) ∷ Sw 5 6 0 ∷ Lui 6 (1 * 2 ^ 12) ∷ Addi 6 6 29 ∷ Sw 5 6 504 ∷ puts 6 1 ∷ Sw 5 6 508 ∷ Ecall ∷ [])
    ∷ program 384 (
    Lui 7 (4 * 2 ^ 12) ∷ Lw 6 5 72 ∷ Sb 7 6 0 ∷ Lw 6 5 28 ∷ Addi 6 6 4 ∷ Sw 5 6 28 ∷ puts 6 2 ∷ Sw 5 6 16 ∷ Ecall ∷ [])
    ∷ program 4096 (
    puts 10 65 ∷ Ecall ∷ Addi 10 10 1 ∷ Ebreak ∷ []) ∷ [])

abbrev pub watching_shows : List Shown
watching_shows =
    (4, 1, event.Answer, 3, 0) ∷ (9, 1, event.Answer, 5, 0) ∷ (12, 1, event.Answer, 5, 0) ∷ (16, 1, event.Answer, 5, 0) ∷ (21, 1, event.Begin, 2, 7)
    ∷ (22, 1, event.Made, 10, 6) ∷ (23, 1, event.Made, 11, 7) ∷ (24, 1, event.Made, 12, 8) ∷ (25, 1, event.Ended, 0, 3) ∷ (32, 1, event.Answer, 3, 0)
    ∷ (37, 1, event.Answer, 4, 0) ∷ (38, 8, event.Raise, 0, 0) ∷ (39, 8, event.Sent, 0, 3) ∷ (44, 3, event.Answer, 1, 0) ∷ (45, 8, event.Raise, 2, 0)
    ∷ (46, 8, event.Sent, 2, 3) ∷ (54, 3, event.Begin, 1, 8) ∷ (55, 3, event.Made, 15, 0) ∷ (56, 3, event.Ended, 0, 1) ∷ (58, 8, event.Raise, 6, 0)
    ∷ (59, 8, event.Sent, 6, 3) ∷ (68, 3, event.Answer, 1, 0) ∷ (70, 8, event.Raise, 7, 0) ∷ (71, 8, event.Died, 7, 0) ∷ (72, 1, event.Raise, 7, 0)
    ∷ (73, 1, event.Died, 7, 0) ∷ []

abbrev pub watching_leaves : Left
watching_leaves = record {
  quiet = true;
  registers = (132, (11, 33) ∷ (12, 34) ∷ (13, 1794) ∷ (14, 64) ∷ (17, 4) ∷ []) ∷ (416, (5, 4294963200) ∷ (6, 2) ∷ (7, 16384) ∷ (17, 1) ∷ []) ∷ (12, (10, 66) ∷ []) ∷ [];
  ticks = 39 ∷ 34 ∷ [];
  counters = [];
  console = 65 ∷ [];
  caps = (0, None, 0, true, 0, 2, 7, 0) ∷ (1, None, 0, true, 4, 0, 3, 4) ∷ (2, None, 0, false, 0, 0, 1, 0) ∷ (3, None, 0, false, 1, 0, 7, 1) ∷ (4, None, 0, false, 2, 0, 1, 2)
      ∷ (5, None, 0, false, 32, 0, 7, 3) ∷ (6, None, 0, false, 64, 0, 7, 4) ∷ (7, None, 0, false, 66, 0, 7, 5) ∷ (8, None, 0, false, 70, 0, 7, 6) ∷ (9, None, 0, false, 33, 0, 1, 7)
      ∷ (10, Some 6, 7, false, 64, 0, 4, 4) ∷ (11, Some 7, 7, false, 66, 0, 4, 5) ∷ (12, Some 8, 7, false, 70, 0, 4, 6) ∷ (13, None, 0, false, 34, 0, 7, 8) ∷ (14, None, 0, false, 35, 0, 1, 9)
      ∷ (15, Some 0, 7, true, 0, 0, 7, 1) ∷ [];
}

-- A REVOKE

-- a derivation of one page or two, with all rights
abbrev pub pages : ℕ → Option ℕ → ℕ → ℕ → ℕ → ℕ → Derivation
pages id parent pd base order target = record { id = id; parent = parent; pd = pd; kind = Mem; base = base; order = order; rights = record { 0 = 7 }; target = target }

-- domain 0 has pages 0 and 1, and 2 and 3; all else comes of these
abbrev pub family : Delegations
family = record {
  list = pages 0 None 0 0 1 0 ∷ pages 1 None 0 2 1 2 ∷ pages 2 (Some 1) 1 8 0 3 ∷ pages 3 (Some 0) 1 0 1 0 ∷ pages 4 (Some 3) 2 0 0 1 ∷ pages 5 (Some 0) 2 4 0 0
      ∷ pages 6 (Some 3) 3 0 0 0 ∷ [];
  next = 7;
}

-- the ids that go, part by part
abbrev pub gone : ℕ → Revocation → Delegations → List ℕ
gone zero r f = []
gone (suc n) r f = in_front (option_map id_of (next_leaf r f)) (gone n r (revoked r f))

abbrev pub revoke_of_all : Bool → Revocation
revoke_of_all own = record { pd = 0; range = record { kind = Mem; base = 0; order = 2 }; own = own }
