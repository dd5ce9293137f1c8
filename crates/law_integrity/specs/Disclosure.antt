-- Disclosure: what a turn tells others of the registers of an execution context, and of the message words of a thread.
use Rattle.std.specs.Prelude.{ℕ, ◌≡◌, ◌≢◌, ◌≤◌, ◌⊎◌, true, false, List, [], ◌∷◌, slice_get, slice_set, Option, Some, None, option_map, Ok}
use Rattle.rv_model.specs.Registers.{Registers, reg}
use Rattle.rv_model.specs.Step.{Raised, environment_call, one}
use Rattle.nova_range.specs.Mtds.{names}
use Rattle.nova_range.specs.declared.mtd.Mtd.{Mtd}
use Rattle.nova_range.specs.declared.mtd.TheConstants.Mtd.{PC, LOW, HIGH}
use Rattle.nova_model.specs.AddressSpaces.{space}
use Rattle.nova_model.specs.Deeds.{address_space, instruction, with_context}
use Rattle.nova_model.specs.Exits.{exit_portal}
use Rattle.nova_model.specs.Portals.{descriptor}
use Rattle.nova_model.specs.Runs.{after}
use Rattle.nova_model.specs.State.{Contexts, KernelState, context, ec_in, entry, is_thread, pd_of}
use Rattle.nova_model.specs.declared.context.EcState.{EcState}
use Rattle.nova_model.specs.declared.context.Mark.{Mark}
use Rattle.nova_model.specs.declared.context.State.{State}
use Rattle.nova_model.specs.declared.context.State.TheVariants.{Exiting, Granting, Helping, Ready, Replying, Sending}
use Rattle.law_origins.specs.Giving.{Acts}
use Rattle.law_integrity.specs.Confined.{IsMember, ReachAny}
use Rattle.law_integrity.specs.Secrecy.{IsHidden, with_bytes}

-- REGISTERS

-- the same state but for the registers of an execution context, which are these
abbrev pub registers_set : Contexts → ℕ → Registers → Contexts
registers_set cs g r = slice_set cs g (option_map (λ (x : EcState). record x { regs = r }) (ec_in cs g))

abbrev pub with_registers : KernelState → ℕ → Registers → KernelState
with_registers k g r = record k { contexts = registers_set k.contexts g r }

-- two states that differ in nothing but the registers of an execution context
pub record DifferInRegisters (k l : KernelState) (g : ℕ) : Type 0 where
  pub registers : Registers
  pub rest : l ≡ with_registers k g registers

-- two register files that are the same in the groups that a descriptor names: pc, x1 to x15, x16 to x31
pub record AreSameIn (mtd : Mtd) (r s : Registers) : Type 0 where
  pub pc : names mtd PC ≡ true → r.pc ≡ s.pc
  pub low : names mtd LOW ≡ true → (x : ℕ) → 1 ≤ x → x ≤ 15 → reg r x ≡ reg s x
  pub high : names mtd HIGH ≡ true → (x : ℕ) → 16 ≤ x → x ≤ 31 → reg r x ≡ reg s x

-- two register files that ask for the same hypercall: its number in x17, and its arguments in x10 to x14
pub record AskSame (r s : Registers) : Type 0 where
  pub number : reg r 17 ≡ reg s 17
  pub arguments : (x : ℕ) → 10 ≤ x → x ≤ 14 → reg r x ≡ reg s x

-- with both the next instruction is a hypercall, and the same
pub record CallSame (k : KernelState) (g : ℕ) (r s : Registers) : Type 0 where
  pub first : one r (space (address_space k g)) ≡ Raised environment_call 0 0
  pub second : one s (space (address_space k g)) ≡ Raised environment_call 0 0
  pub asks : AskSame r s

-- An exit of this reason tells the same of both: they are the same in the groups of the portal that the domain holds for it.
abbrev pub ExitTellsSame : KernelState → ℕ → ℕ → Registers → Registers → Type 0
ExitTellsSame k g reason r s = (portal : ℕ) → exit_portal k g reason ≡ Ok portal → AreSameIn (descriptor k portal) r s

-- What a turn of its own tells of its registers is the same of both, by the state that it is in: of an exit that is raised, the groups of that exit's
-- portal; of a hypercall, or of a call that is made again while it helps, number and arguments; of a first range that it gives, x12. In a turn at any
-- other state, or with a recall that comes first, it tells nothing. Of any other instruction nothing is said here.
abbrev pub TellsSame : KernelState → ℕ → Registers → Registers → State → Type 0
TellsSame k g r s (Exiting reason q0 q1) = ExitTellsSame k g reason r s
TellsSame k g r s (Sending reason q0 q1 handler) = ExitTellsSame k g reason r s
TellsSame k g r s Ready = ((context k g).recall ≡ true) ⊎ CallSame k g r s
TellsSame k g r s (Helping handler) = AskSame r s
TellsSame k g r s (Granting (Some domain)) = reg r 12 ≡ reg s 12
TellsSame k g r s other = Unit {0}

-- in this turn, from either state, it doesn't act, or tells the same of both
abbrev pub IsUntold : KernelState → KernelState → ℕ → ℕ → Type 0
IsUntold k l cpu g = Acts k cpu g → TellsSame k g (context k g).regs (context l g).regs (context k g).state

-- so in each of these turns
abbrev pub IsUntoldAlong : KernelState → KernelState → List ℕ → ℕ → Type 0
IsUntoldAlong k l [] g = Unit {0}
IsUntoldAlong k l (cpu ∷ turns) g = IsUntold k l cpu g × IsUntoldAlong (after k cpu) (after l cpu) turns g

-- two states that differ in nothing but the registers of an execution context, and the message words of a handler
pub record DifferByExit (k l : KernelState) (g handler : ℕ) : Type 0 where
  pub registers : Registers
  pub words : Option (List ℕ)
  pub rest : l ≡ record (with_registers k g registers) { messages = slice_set k.messages handler words }

-- A context whose turn is an instruction: no exit of it is raised, no recall comes first, and it is no hypercall.
pub record IsAtInstruction (k : KernelState) (g : ℕ) : Type 0 where
  pub state : (context k g).state ≡ Ready
  pub recall : (context k g).recall ≡ false
  pub no_call : is_thread k g ≡ true → (q0 q1 : ℕ) → instruction k g ≡ Raised environment_call q0 q1 → ⊥

-- two states that differ in nothing but an execution context itself and its message words, the bytes of memory with the log, and the stir counts of virtual CPUs
pub record DifferByInstruction (k l : KernelState) (g : ℕ) : Type 0 where
  pub own : EcState
  pub words : Option (List ℕ)
  pub rest : l ≡ record (with_context k g own) { messages = slice_set k.messages g words; memory = l.memory; stirs = l.stirs }

-- MESSAGE WORDS

-- the same state but for the message words of a thread, which are these
abbrev pub words_set : List (Option (List ℕ)) → ℕ → List ℕ → List (Option (List ℕ))
words_set ms m words = slice_set ms m (option_map (λ (old : List ℕ). words) (entry (slice_get ms m)))

abbrev pub with_words : KernelState → ℕ → List ℕ → KernelState
with_words k m words = record k { messages = words_set k.messages m words }

-- two states that differ in nothing but the message words of a thread
pub record DifferInWords (k l : KernelState) (m : ℕ) : Type 0 where
  pub words : List ℕ
  pub rest : l ≡ with_words k m words

-- Which turns read the message words of a thread: its own; that of a handler that takes the items of its call; and that of a handler that gives it
-- the items of a reply, to its windows.
pub data ReadsWords (k : KernelState) (ec m : ℕ) : Type 0 where
  ItsOwn : ec ≡ m → ReadsWords k ec m
  TakesItems : (context k ec).state ≡ Granting None → (came : Mark) → (context k ec).caller ≡ Some (m, came) → ReadsWords k ec m
  GivesItems : (context k ec).state ≡ Replying → (came : Mark) → (context k ec).caller ≡ Some (m, came) → ReadsWords k ec m

-- in this turn none does
abbrev pub AreWordsUnread : KernelState → ℕ → ℕ → Type 0
AreWordsUnread k cpu m = (ec : ℕ) → Acts k cpu ec → ReadsWords k ec m → ⊥

-- so in each of these turns
abbrev pub AreWordsUnreadAlong : KernelState → List ℕ → ℕ → Type 0
AreWordsUnreadAlong k [] m = Unit {0}
AreWordsUnreadAlong k (cpu ∷ turns) m = AreWordsUnread k cpu m × AreWordsUnreadAlong (after k cpu) turns m

-- SEVERAL AT ONCE

-- what may differ: the registers of an execution context, the message words of a thread, the bytes of a frame
pub data Secret : Type 0 where
  InRegisters : ℕ → Secret
  InWords : ℕ → Secret
  InFrame : ℕ → Secret

abbrev pub DiffersIn : Secret → KernelState → KernelState → Type 0
DiffersIn (InRegisters n) k l = DifferInRegisters k l n
DiffersIn (InWords n) k l = DifferInWords k l n
DiffersIn (InFrame frame) k l = (bytes : List ℕ) × (l ≡ with_bytes k frame bytes)

-- two states that differ in nothing but these, one after another
abbrev pub Differ : List Secret → KernelState → KernelState → Type 0
Differ [] k l = l ≡ k
Differ (s ∷ secrets) k l = (m : KernelState) × DiffersIn s k m × Differ secrets m l

-- the context that acts doesn't see it: the registers are another's, it reads no such words, and no page of its domain leads to the frame
abbrev pub IsUnseen : KernelState → ℕ → Secret → Type 0
IsUnseen k ec (InRegisters n) = ec ≢ n
IsUnseen k ec (InWords n) = ReadsWords k ec n → ⊥
IsUnseen k ec (InFrame frame) = IsHidden k (pd_of k ec) frame

abbrev pub AreUnseen : KernelState → ℕ → List Secret → Type 0
AreUnseen k ec [] = Unit {0}
AreUnseen k ec (s ∷ secrets) = IsUnseen k ec s × AreUnseen k ec secrets

-- it is of a set of domains: the registers or words of one of its execution contexts, or the bytes of a frame that it reaches
abbrev pub IsSecretOf : KernelState → (ℕ → Type 0) → Secret → Type 0
IsSecretOf k S (InRegisters n) = IsMember k S n
IsSecretOf k S (InWords n) = IsMember k S n
IsSecretOf k S (InFrame frame) = ReachAny k S frame

abbrev pub AreSecretsOf : KernelState → (ℕ → Type 0) → List Secret → Type 0
AreSecretsOf k S [] = Unit {0}
AreSecretsOf k S (s ∷ secrets) = IsSecretOf k S s × AreSecretsOf k S secrets
