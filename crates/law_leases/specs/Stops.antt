-- Where a lease stops.
use Rattle.std.specs.Prelude.{◌≡◌, ℕ, ◌/◌, List, Option, Some, None}
use Rattle.rv_model.specs.Words.{plus}
use Rattle.rv_model.specs.Registers.{Registers, reg}
use Rattle.rv_model.specs.Codes.{instr_of}
use Rattle.rv_model.specs.Step.{Space, Once, Raised}
use Rattle.rv_model.specs.declared.instr.Instr.{Instr}
use Rattle.rv_model.specs.declared.instr.Instr.TheVariants.{Lb, Lh, Lw, Lbu, Lhu, Sb, Sh, Sw}
use Rattle.nova_guest.specs.declared.page.Page.{Page as Place}
use Rattle.law_leases.specs.Leases.{copy_at}
use Rattle.law_leases.specs.declared.steps.Page.{Page}

-- the page of an address is known, and the frame that it leads to is copied
pub record IsCopiedAt (known : ℕ → Option Place) (pages : List Page) (address : ℕ) : Type 0 where
  pub place : Place
  pub bytes : List ℕ
  pub at : known (address / 4096) ≡ Some place
  pub copy : copy_at pages place.frame ≡ Some bytes

-- what holds of the address of a load or a store
abbrev pub HoldsOfData : (ℕ → Type 0) → Registers → Instr → Type 0
HoldsOfData P r (Lb rd rs1 imm) = P (plus (reg r rs1) imm)
HoldsOfData P r (Lh rd rs1 imm) = P (plus (reg r rs1) imm)
HoldsOfData P r (Lw rd rs1 imm) = P (plus (reg r rs1) imm)
HoldsOfData P r (Lbu rd rs1 imm) = P (plus (reg r rs1) imm)
HoldsOfData P r (Lhu rd rs1 imm) = P (plus (reg r rs1) imm)
HoldsOfData P r (Sb rs1 rs2 imm) = P (plus (reg r rs1) imm)
HoldsOfData P r (Sh rs1 rs2 imm) = P (plus (reg r rs1) imm)
HoldsOfData P r (Sw rs1 rs2 imm) = P (plus (reg r rs1) imm)
HoldsOfData P r other = Unit {0}

abbrev pub HoldsOfInstruction : (ℕ → Type 0) → Registers → Option Instr → Type 0
HoldsOfInstruction P r (Some i) = HoldsOfData P r i
HoldsOfInstruction P r None = Unit {0}

abbrev pub HoldsOfWord : (ℕ → Type 0) → Registers → Option ℕ → Type 0
HoldsOfWord P r (Some word) = HoldsOfInstruction P r (instr_of word)
HoldsOfWord P r None = Unit {0}

-- what holds of each address that the next instruction touches: pc, and that of its load or store
pub record HoldsOfTouched (P : ℕ → Type 0) (r : Registers) (a : Space) : Type 0 where
  pub pc : P r.pc
  pub there : HoldsOfWord P r (a.fetch r.pc)

abbrev pub IsRaise : Once → Type 0
IsRaise (Raised reason q0 q1) = Unit {0}
IsRaise other = ⊥
