-- The instruction table of RV32I: for each name its text, format, opcode and function codes. Each stands here once, and decoding,
-- encoding, the assembler and the printer read it. (RISC-V unprivileged manual, chapter "RV32/64G Instruction Set Listings".)
use Rattle.std.specs.Prelude.{ℕ, List, [], ◌∷◌, Option, Some, None, codes}
use Rattle.rv_model.specs.declared.instr.Instr.{Instr}
use Rattle.rv_model.specs.declared.instr.Instr.TheVariants as variant
use Rattle.rv_model.specs.declared.instr.Operands.{Operands}
use Rattle.rv_model.specs.declared.mnemonic.Mnemonic.{Mnemonic}
use Rattle.rv_model.specs.declared.mnemonic.Mnemonic.TheVariants.{Lui, Auipc, Jal, Jalr, Beq, Bne, Blt, Bge, Bltu, Bgeu, Lb, Lh, Lw, Lbu, Lhu, Sb, Sh, Sw, Addi, Slti, Sltiu, Xori, Ori, Andi, Slli, Srli, Srai, Add, Sub, Sll, Slt, Sltu, Xor, Srl, Sra, Or, And, Fence, Ecall, Ebreak}
use Rattle.rv_model.specs.declared.mnemonic.Format.{Format}
use Rattle.rv_model.specs.declared.mnemonic.Format.TheVariants as format

-- a row: the name, the format, and what opcode (bits 0 to 6), funct3 (12 to 14) and funct7 (25 to 31) must be
pub record Row : Type 0 where
  pub name : List ℕ
  pub format : Format
  pub opcode : ℕ
  pub funct3 : Option ℕ
  pub funct7 : Option ℕ

-- the opcodes, by the manual's opcode map: LUI, AUIPC, JAL, JALR, BRANCH, LOAD, STORE, OP-IMM, OP, MISC-MEM and SYSTEM
abbrev pub lui_code : ℕ
lui_code = 55  -- 0x37

abbrev pub auipc_code : ℕ
auipc_code = 23  -- 0x17

abbrev pub jal_code : ℕ
jal_code = 111  -- 0x6f

abbrev pub jalr_code : ℕ
jalr_code = 103  -- 0x67

abbrev pub branch_code : ℕ
branch_code = 99  -- 0x63

abbrev pub load_code : ℕ
load_code = 3  -- 0x03

abbrev pub store_code : ℕ
store_code = 35  -- 0x23

abbrev pub immediate_code : ℕ
immediate_code = 19  -- 0x13

abbrev pub register_code : ℕ
register_code = 51  -- 0x33

abbrev pub fence_code : ℕ
fence_code = 15  -- 0x0f

abbrev pub system_code : ℕ
system_code = 115  -- 0x73

abbrev pub row : List ℕ → Format → ℕ → Option ℕ → Option ℕ → Row
row name format opcode funct3 funct7 = record { name = name; format = format; opcode = opcode; funct3 = funct3; funct7 = funct7 }

abbrev pub row_of : Mnemonic → Row
row_of Lui = row (codes "lui") format.Upper lui_code None None
row_of Auipc = row (codes "auipc") format.Upper auipc_code None None
row_of Jal = row (codes "jal") format.Jump jal_code None None
row_of Jalr = row (codes "jalr") format.Immediate jalr_code (Some 0) None
row_of Beq = row (codes "beq") format.Branch branch_code (Some 0) None
row_of Bne = row (codes "bne") format.Branch branch_code (Some 1) None
row_of Blt = row (codes "blt") format.Branch branch_code (Some 4) None
row_of Bge = row (codes "bge") format.Branch branch_code (Some 5) None
row_of Bltu = row (codes "bltu") format.Branch branch_code (Some 6) None
row_of Bgeu = row (codes "bgeu") format.Branch branch_code (Some 7) None
row_of Lb = row (codes "lb") format.Immediate load_code (Some 0) None
row_of Lh = row (codes "lh") format.Immediate load_code (Some 1) None
row_of Lw = row (codes "lw") format.Immediate load_code (Some 2) None
row_of Lbu = row (codes "lbu") format.Immediate load_code (Some 4) None
row_of Lhu = row (codes "lhu") format.Immediate load_code (Some 5) None
row_of Sb = row (codes "sb") format.Store store_code (Some 0) None
row_of Sh = row (codes "sh") format.Store store_code (Some 1) None
row_of Sw = row (codes "sw") format.Store store_code (Some 2) None
row_of Addi = row (codes "addi") format.Immediate immediate_code (Some 0) None
row_of Slti = row (codes "slti") format.Immediate immediate_code (Some 2) None
row_of Sltiu = row (codes "sltiu") format.Immediate immediate_code (Some 3) None
row_of Xori = row (codes "xori") format.Immediate immediate_code (Some 4) None
row_of Ori = row (codes "ori") format.Immediate immediate_code (Some 6) None
row_of Andi = row (codes "andi") format.Immediate immediate_code (Some 7) None
row_of Slli = row (codes "slli") format.Shift immediate_code (Some 1) (Some 0)
row_of Srli = row (codes "srli") format.Shift immediate_code (Some 5) (Some 0)
row_of Srai = row (codes "srai") format.Shift immediate_code (Some 5) (Some 32)
row_of Add = row (codes "add") format.Register register_code (Some 0) (Some 0)
row_of Sub = row (codes "sub") format.Register register_code (Some 0) (Some 32)
row_of Sll = row (codes "sll") format.Register register_code (Some 1) (Some 0)
row_of Slt = row (codes "slt") format.Register register_code (Some 2) (Some 0)
row_of Sltu = row (codes "sltu") format.Register register_code (Some 3) (Some 0)
row_of Xor = row (codes "xor") format.Register register_code (Some 4) (Some 0)
row_of Srl = row (codes "srl") format.Register register_code (Some 5) (Some 0)
row_of Sra = row (codes "sra") format.Register register_code (Some 5) (Some 32)
row_of Or = row (codes "or") format.Register register_code (Some 6) (Some 0)
row_of And = row (codes "and") format.Register register_code (Some 7) (Some 0)
row_of Fence = row (codes "fence") format.Fence fence_code (Some 0) None
row_of Ecall = row (codes "ecall") (format.Alone 115) system_code None None
row_of Ebreak = row (codes "ebreak") (format.Alone 1048691) system_code None None

-- the forty names
abbrev pub mnemonics : List Mnemonic
mnemonics = Lui ∷ Auipc ∷ Jal ∷ Jalr ∷ Beq ∷ Bne ∷ Blt ∷ Bge ∷ Bltu ∷ Bgeu ∷ Lb ∷ Lh ∷ Lw ∷ Lbu ∷ Lhu ∷ Sb ∷ Sh ∷ Sw ∷ Addi ∷ Slti ∷ Sltiu ∷ Xori ∷ Ori ∷ Andi ∷ Slli ∷ Srli ∷ Srai ∷ Add ∷ Sub ∷ Sll ∷ Slt ∷ Sltu ∷ Xor ∷ Srl ∷ Sra ∷ Or ∷ And ∷ Fence ∷ Ecall ∷ Ebreak ∷ []

-- the instruction of a name and its operands
abbrev pub instr_from : Mnemonic → Operands → Instr
instr_from Lui o = variant.Lui o.rd o.imm
instr_from Auipc o = variant.Auipc o.rd o.imm
instr_from Jal o = variant.Jal o.rd o.imm
instr_from Jalr o = variant.Jalr o.rd o.rs1 o.imm
instr_from Beq o = variant.Beq o.rs1 o.rs2 o.imm
instr_from Bne o = variant.Bne o.rs1 o.rs2 o.imm
instr_from Blt o = variant.Blt o.rs1 o.rs2 o.imm
instr_from Bge o = variant.Bge o.rs1 o.rs2 o.imm
instr_from Bltu o = variant.Bltu o.rs1 o.rs2 o.imm
instr_from Bgeu o = variant.Bgeu o.rs1 o.rs2 o.imm
instr_from Lb o = variant.Lb o.rd o.rs1 o.imm
instr_from Lh o = variant.Lh o.rd o.rs1 o.imm
instr_from Lw o = variant.Lw o.rd o.rs1 o.imm
instr_from Lbu o = variant.Lbu o.rd o.rs1 o.imm
instr_from Lhu o = variant.Lhu o.rd o.rs1 o.imm
instr_from Sb o = variant.Sb o.rs1 o.rs2 o.imm
instr_from Sh o = variant.Sh o.rs1 o.rs2 o.imm
instr_from Sw o = variant.Sw o.rs1 o.rs2 o.imm
instr_from Addi o = variant.Addi o.rd o.rs1 o.imm
instr_from Slti o = variant.Slti o.rd o.rs1 o.imm
instr_from Sltiu o = variant.Sltiu o.rd o.rs1 o.imm
instr_from Xori o = variant.Xori o.rd o.rs1 o.imm
instr_from Ori o = variant.Ori o.rd o.rs1 o.imm
instr_from Andi o = variant.Andi o.rd o.rs1 o.imm
instr_from Slli o = variant.Slli o.rd o.rs1 o.imm
instr_from Srli o = variant.Srli o.rd o.rs1 o.imm
instr_from Srai o = variant.Srai o.rd o.rs1 o.imm
instr_from Add o = variant.Add o.rd o.rs1 o.rs2
instr_from Sub o = variant.Sub o.rd o.rs1 o.rs2
instr_from Sll o = variant.Sll o.rd o.rs1 o.rs2
instr_from Slt o = variant.Slt o.rd o.rs1 o.rs2
instr_from Sltu o = variant.Sltu o.rd o.rs1 o.rs2
instr_from Xor o = variant.Xor o.rd o.rs1 o.rs2
instr_from Srl o = variant.Srl o.rd o.rs1 o.rs2
instr_from Sra o = variant.Sra o.rd o.rs1 o.rs2
instr_from Or o = variant.Or o.rd o.rs1 o.rs2
instr_from And o = variant.And o.rd o.rs1 o.rs2
instr_from Fence o = variant.Fence
instr_from Ecall o = variant.Ecall
instr_from Ebreak o = variant.Ebreak

-- its name, and its operands
abbrev pub mnemonic_of : Instr → Mnemonic
mnemonic_of (variant.Lui rd imm) = Lui
mnemonic_of (variant.Auipc rd imm) = Auipc
mnemonic_of (variant.Jal rd imm) = Jal
mnemonic_of (variant.Jalr rd rs1 imm) = Jalr
mnemonic_of (variant.Beq rs1 rs2 imm) = Beq
mnemonic_of (variant.Bne rs1 rs2 imm) = Bne
mnemonic_of (variant.Blt rs1 rs2 imm) = Blt
mnemonic_of (variant.Bge rs1 rs2 imm) = Bge
mnemonic_of (variant.Bltu rs1 rs2 imm) = Bltu
mnemonic_of (variant.Bgeu rs1 rs2 imm) = Bgeu
mnemonic_of (variant.Lb rd rs1 imm) = Lb
mnemonic_of (variant.Lh rd rs1 imm) = Lh
mnemonic_of (variant.Lw rd rs1 imm) = Lw
mnemonic_of (variant.Lbu rd rs1 imm) = Lbu
mnemonic_of (variant.Lhu rd rs1 imm) = Lhu
mnemonic_of (variant.Sb rs1 rs2 imm) = Sb
mnemonic_of (variant.Sh rs1 rs2 imm) = Sh
mnemonic_of (variant.Sw rs1 rs2 imm) = Sw
mnemonic_of (variant.Addi rd rs1 imm) = Addi
mnemonic_of (variant.Slti rd rs1 imm) = Slti
mnemonic_of (variant.Sltiu rd rs1 imm) = Sltiu
mnemonic_of (variant.Xori rd rs1 imm) = Xori
mnemonic_of (variant.Ori rd rs1 imm) = Ori
mnemonic_of (variant.Andi rd rs1 imm) = Andi
mnemonic_of (variant.Slli rd rs1 imm) = Slli
mnemonic_of (variant.Srli rd rs1 imm) = Srli
mnemonic_of (variant.Srai rd rs1 imm) = Srai
mnemonic_of (variant.Add rd rs1 rs2) = Add
mnemonic_of (variant.Sub rd rs1 rs2) = Sub
mnemonic_of (variant.Sll rd rs1 rs2) = Sll
mnemonic_of (variant.Slt rd rs1 rs2) = Slt
mnemonic_of (variant.Sltu rd rs1 rs2) = Sltu
mnemonic_of (variant.Xor rd rs1 rs2) = Xor
mnemonic_of (variant.Srl rd rs1 rs2) = Srl
mnemonic_of (variant.Sra rd rs1 rs2) = Sra
mnemonic_of (variant.Or rd rs1 rs2) = Or
mnemonic_of (variant.And rd rs1 rs2) = And
mnemonic_of variant.Fence = Fence
mnemonic_of variant.Ecall = Ecall
mnemonic_of variant.Ebreak = Ebreak

abbrev pub operands_of : Instr → Operands
operands_of (variant.Lui rd imm) = record { rd = rd; rs1 = 0; rs2 = 0; imm = imm }
operands_of (variant.Auipc rd imm) = record { rd = rd; rs1 = 0; rs2 = 0; imm = imm }
operands_of (variant.Jal rd imm) = record { rd = rd; rs1 = 0; rs2 = 0; imm = imm }
operands_of (variant.Jalr rd rs1 imm) = record { rd = rd; rs1 = rs1; rs2 = 0; imm = imm }
operands_of (variant.Beq rs1 rs2 imm) = record { rd = 0; rs1 = rs1; rs2 = rs2; imm = imm }
operands_of (variant.Bne rs1 rs2 imm) = record { rd = 0; rs1 = rs1; rs2 = rs2; imm = imm }
operands_of (variant.Blt rs1 rs2 imm) = record { rd = 0; rs1 = rs1; rs2 = rs2; imm = imm }
operands_of (variant.Bge rs1 rs2 imm) = record { rd = 0; rs1 = rs1; rs2 = rs2; imm = imm }
operands_of (variant.Bltu rs1 rs2 imm) = record { rd = 0; rs1 = rs1; rs2 = rs2; imm = imm }
operands_of (variant.Bgeu rs1 rs2 imm) = record { rd = 0; rs1 = rs1; rs2 = rs2; imm = imm }
operands_of (variant.Lb rd rs1 imm) = record { rd = rd; rs1 = rs1; rs2 = 0; imm = imm }
operands_of (variant.Lh rd rs1 imm) = record { rd = rd; rs1 = rs1; rs2 = 0; imm = imm }
operands_of (variant.Lw rd rs1 imm) = record { rd = rd; rs1 = rs1; rs2 = 0; imm = imm }
operands_of (variant.Lbu rd rs1 imm) = record { rd = rd; rs1 = rs1; rs2 = 0; imm = imm }
operands_of (variant.Lhu rd rs1 imm) = record { rd = rd; rs1 = rs1; rs2 = 0; imm = imm }
operands_of (variant.Sb rs1 rs2 imm) = record { rd = 0; rs1 = rs1; rs2 = rs2; imm = imm }
operands_of (variant.Sh rs1 rs2 imm) = record { rd = 0; rs1 = rs1; rs2 = rs2; imm = imm }
operands_of (variant.Sw rs1 rs2 imm) = record { rd = 0; rs1 = rs1; rs2 = rs2; imm = imm }
operands_of (variant.Addi rd rs1 imm) = record { rd = rd; rs1 = rs1; rs2 = 0; imm = imm }
operands_of (variant.Slti rd rs1 imm) = record { rd = rd; rs1 = rs1; rs2 = 0; imm = imm }
operands_of (variant.Sltiu rd rs1 imm) = record { rd = rd; rs1 = rs1; rs2 = 0; imm = imm }
operands_of (variant.Xori rd rs1 imm) = record { rd = rd; rs1 = rs1; rs2 = 0; imm = imm }
operands_of (variant.Ori rd rs1 imm) = record { rd = rd; rs1 = rs1; rs2 = 0; imm = imm }
operands_of (variant.Andi rd rs1 imm) = record { rd = rd; rs1 = rs1; rs2 = 0; imm = imm }
operands_of (variant.Slli rd rs1 imm) = record { rd = rd; rs1 = rs1; rs2 = 0; imm = imm }
operands_of (variant.Srli rd rs1 imm) = record { rd = rd; rs1 = rs1; rs2 = 0; imm = imm }
operands_of (variant.Srai rd rs1 imm) = record { rd = rd; rs1 = rs1; rs2 = 0; imm = imm }
operands_of (variant.Add rd rs1 rs2) = record { rd = rd; rs1 = rs1; rs2 = rs2; imm = 0 }
operands_of (variant.Sub rd rs1 rs2) = record { rd = rd; rs1 = rs1; rs2 = rs2; imm = 0 }
operands_of (variant.Sll rd rs1 rs2) = record { rd = rd; rs1 = rs1; rs2 = rs2; imm = 0 }
operands_of (variant.Slt rd rs1 rs2) = record { rd = rd; rs1 = rs1; rs2 = rs2; imm = 0 }
operands_of (variant.Sltu rd rs1 rs2) = record { rd = rd; rs1 = rs1; rs2 = rs2; imm = 0 }
operands_of (variant.Xor rd rs1 rs2) = record { rd = rd; rs1 = rs1; rs2 = rs2; imm = 0 }
operands_of (variant.Srl rd rs1 rs2) = record { rd = rd; rs1 = rs1; rs2 = rs2; imm = 0 }
operands_of (variant.Sra rd rs1 rs2) = record { rd = rd; rs1 = rs1; rs2 = rs2; imm = 0 }
operands_of (variant.Or rd rs1 rs2) = record { rd = rd; rs1 = rs1; rs2 = rs2; imm = 0 }
operands_of (variant.And rd rs1 rs2) = record { rd = rd; rs1 = rs1; rs2 = rs2; imm = 0 }
operands_of variant.Fence = record { rd = 0; rs1 = 0; rs2 = 0; imm = 0 }
operands_of variant.Ecall = record { rd = 0; rs1 = 0; rs2 = 0; imm = 0 }
operands_of variant.Ebreak = record { rd = 0; rs1 = 0; rs2 = 0; imm = 0 }
