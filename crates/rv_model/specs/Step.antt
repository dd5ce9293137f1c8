-- One instruction over registers and an address space: the first raise that holds, or the next registers and at most one store.
-- (RV32I, "Integer Computational Instructions", "Control Transfer Instructions", "Load and Store Instructions".)
use Rattle.std.specs.Prelude.{ℕ, ◌*◌, ◌/◌, ◌%◌, ◌^◌, ◌==◌, Bool, true, false, not, nat_lt, nat_le, bit_and, Option, Some, None, if◌then◌else◌, ◌≡◌, ◌⊎◌}
use Rattle.std.specs.Int.{w32, cast_signed, cast_unsigned, int_shr}
use Rattle.std.specs.Int.RustNames.{bit_or, bit_xor}
use Rattle.std.specs.Int.Signed.{lt_z}
use Rattle.rv_model.specs.Words.{plus, minus, extended}
use Rattle.rv_model.specs.Registers.{Registers, reg, with_reg}
use Rattle.rv_model.specs.Codes.{instr_of}
use Rattle.rv_model.specs.declared.instr.Instr.{Instr}
use Rattle.rv_model.specs.declared.instr.Instr.TheVariants.{Lui, Auipc, Jal, Jalr, Beq, Bne, Blt, Bge, Bltu, Bgeu, Lb, Lh, Lw, Lbu, Lhu, Sb, Sh, Sw, Addi, Slti, Sltiu, Xori, Ori, Andi, Slli, Srli, Srai, Add, Sub, Sll, Slt, Sltu, Xor, Srl, Sra, Or, And, Fence, Ecall, Ebreak}

-- reasons of a raise
abbrev pub illegal : ℕ
illegal = 1

abbrev pub fetch_fault : ℕ
fetch_fault = 2

abbrev pub load_fault : ℕ
load_fault = 3

abbrev pub store_fault : ℕ
store_fault = 4

abbrev pub misaligned : ℕ
misaligned = 5

abbrev pub environment_call : ℕ
environment_call = 6

abbrev pub breakpoint : ℕ
breakpoint = 7

-- how many bytes a load or a store goes over
abbrev pub IsWidth : ℕ → Type 0
IsWidth width = (width ≡ 1) ⊎ ((width ≡ 2) ⊎ (width ≡ 4))

-- an address space: the word to fetch at an address, the number to load of a width (1, 2 or 4 bytes), or nothing; and whether
-- a store of a width is taken
pub record Space : Type 0 where
  pub fetch : ℕ → Option ℕ
  pub load : ℕ → ℕ → Option ℕ
  pub takes : ℕ → ℕ → Bool

-- a store: an address, a width in bytes, and a number of that width
pub record Store : Type 0 where
  pub address : ℕ
  pub width : ℕ
  pub value : ℕ

-- what one instruction comes to: a raise, with nothing changed, or the next registers and at most one store
pub data Once : Type 0 where
  Raised : (reason q0 q1 : ℕ) → Once
  Went : Registers → Option Store → Once

-- on to the next instruction
abbrev pub next : Registers → Registers
next r = record r { pc = plus r.pc 4 }

-- on, with a value in rd
abbrev pub sets : Registers → ℕ → ℕ → Once
sets r rd value = Went (next (with_reg r rd value)) None

-- to an address, which must be a multiple of 4
abbrev pub goes : Registers → ℕ → Once
goes r target = if target % 4 == 0 then Went (record r { pc = target }) None else Raised misaligned target 0

-- to an address, with the next one in rd
abbrev pub jumps : Registers → ℕ → ℕ → Once
jumps r rd target = if target % 4 == 0 then Went (record (with_reg r rd (plus r.pc 4)) { pc = target }) None else Raised misaligned target 0

-- to pc and an offset where the test holds, else on
abbrev pub branches : Registers → Bool → ℕ → Once
branches r test offset = if test then goes r (plus r.pc offset) else Went (next r) None

-- what was loaded goes to rd, as `extend` makes a word of it
abbrev pub loaded : Registers → ℕ → (ℕ → ℕ) → ℕ → ℕ → Option ℕ → Once
loaded r rd extend address width (Some n) = sets r rd (extend n)
loaded r rd extend address width None = Raised load_fault address width

abbrev pub loads : Registers → Space → ℕ → (ℕ → ℕ) → ℕ → ℕ → Once
loads r a rd extend width address =
    if address % width == 0 then loaded r rd extend address width (a.load address width) else Raised misaligned address 1

-- a store of the lowest bytes of a value
abbrev pub stored : Registers → Bool → ℕ → ℕ → ℕ → Once
stored r true width address value = Went (next r) (Some (record { address = address; width = width; value = value % 2 ^ (8 * width) }))
stored r false width address value = Raised store_fault address width

abbrev pub stores : Registers → Space → ℕ → ℕ → ℕ → Once
stores r a width address value =
    if address % width == 0 then stored r (a.takes address width) width address value else Raised misaligned address 2

-- comparisons: of words as signed numbers, and without sign
abbrev pub is_less_signed : ℕ → ℕ → Bool
is_less_signed a b = lt_z (cast_signed w32 a) (cast_signed w32 b)

abbrev pub bit_of : Bool → ℕ
bit_of true = 1
bit_of false = 0

-- shifts by the low five bits of an amount: to the left, to the right with zeros, to the right with the sign
abbrev pub shift_left : ℕ → ℕ → ℕ
shift_left a amount = a * 2 ^ (amount % 32) % 2 ^ 32

abbrev pub shift_right : ℕ → ℕ → ℕ
shift_right a amount = a / 2 ^ (amount % 32)

abbrev pub shift_right_signed : ℕ → ℕ → ℕ
shift_right_signed a amount = cast_unsigned w32 (int_shr (cast_signed w32 a) (amount % 32))

-- what each instruction does
abbrev pub executed : Registers → Space → Instr → Once
executed r a (Lui rd imm) = sets r rd imm
executed r a (Auipc rd imm) = sets r rd (plus r.pc imm)
executed r a (Jal rd imm) = jumps r rd (plus r.pc imm)
executed r a (Jalr rd rs1 imm) = jumps r rd (plus (reg r rs1) imm / 2 * 2)
executed r a (Beq rs1 rs2 imm) = branches r (reg r rs1 == reg r rs2) imm
executed r a (Bne rs1 rs2 imm) = branches r (not (reg r rs1 == reg r rs2)) imm
executed r a (Blt rs1 rs2 imm) = branches r (is_less_signed (reg r rs1) (reg r rs2)) imm
executed r a (Bge rs1 rs2 imm) = branches r (not (is_less_signed (reg r rs1) (reg r rs2))) imm
executed r a (Bltu rs1 rs2 imm) = branches r (nat_lt (reg r rs1) (reg r rs2)) imm
executed r a (Bgeu rs1 rs2 imm) = branches r (nat_le (reg r rs2) (reg r rs1)) imm
executed r a (Lb rd rs1 imm) = loads r a rd (extended 8) 1 (plus (reg r rs1) imm)
executed r a (Lh rd rs1 imm) = loads r a rd (extended 16) 2 (plus (reg r rs1) imm)
executed r a (Lw rd rs1 imm) = loads r a rd (λ n. n) 4 (plus (reg r rs1) imm)
executed r a (Lbu rd rs1 imm) = loads r a rd (λ n. n) 1 (plus (reg r rs1) imm)
executed r a (Lhu rd rs1 imm) = loads r a rd (λ n. n) 2 (plus (reg r rs1) imm)
executed r a (Sb rs1 rs2 imm) = stores r a 1 (plus (reg r rs1) imm) (reg r rs2)
executed r a (Sh rs1 rs2 imm) = stores r a 2 (plus (reg r rs1) imm) (reg r rs2)
executed r a (Sw rs1 rs2 imm) = stores r a 4 (plus (reg r rs1) imm) (reg r rs2)
executed r a (Addi rd rs1 imm) = sets r rd (plus (reg r rs1) imm)
executed r a (Slti rd rs1 imm) = sets r rd (bit_of (is_less_signed (reg r rs1) imm))
executed r a (Sltiu rd rs1 imm) = sets r rd (bit_of (nat_lt (reg r rs1) imm))
executed r a (Xori rd rs1 imm) = sets r rd (bit_xor (reg r rs1) imm)
executed r a (Ori rd rs1 imm) = sets r rd (bit_or (reg r rs1) imm)
executed r a (Andi rd rs1 imm) = sets r rd (bit_and (reg r rs1) imm)
executed r a (Slli rd rs1 imm) = sets r rd (shift_left (reg r rs1) imm)
executed r a (Srli rd rs1 imm) = sets r rd (shift_right (reg r rs1) imm)
executed r a (Srai rd rs1 imm) = sets r rd (shift_right_signed (reg r rs1) imm)
executed r a (Add rd rs1 rs2) = sets r rd (plus (reg r rs1) (reg r rs2))
executed r a (Sub rd rs1 rs2) = sets r rd (minus (reg r rs1) (reg r rs2))
executed r a (Sll rd rs1 rs2) = sets r rd (shift_left (reg r rs1) (reg r rs2))
executed r a (Slt rd rs1 rs2) = sets r rd (bit_of (is_less_signed (reg r rs1) (reg r rs2)))
executed r a (Sltu rd rs1 rs2) = sets r rd (bit_of (nat_lt (reg r rs1) (reg r rs2)))
executed r a (Xor rd rs1 rs2) = sets r rd (bit_xor (reg r rs1) (reg r rs2))
executed r a (Srl rd rs1 rs2) = sets r rd (shift_right (reg r rs1) (reg r rs2))
executed r a (Sra rd rs1 rs2) = sets r rd (shift_right_signed (reg r rs1) (reg r rs2))
executed r a (Or rd rs1 rs2) = sets r rd (bit_or (reg r rs1) (reg r rs2))
executed r a (And rd rs1 rs2) = sets r rd (bit_and (reg r rs1) (reg r rs2))
executed r a Fence = Went (next r) None
executed r a Ecall = Raised environment_call 0 0
executed r a Ebreak = Raised breakpoint 0 0

-- the word that was fetched
abbrev pub decoded : Registers → Space → ℕ → Option Instr → Once
decoded r a word (Some i) = executed r a i
decoded r a word None = Raised illegal word 0

abbrev pub fetched : Registers → Space → Option ℕ → Once
fetched r a (Some word) = decoded r a word (instr_of word)
fetched r a None = Raised fetch_fault r.pc 0

-- one instruction
unfoldable pub one : Registers → Space → Once
one r a = if r.pc % 4 == 0 then fetched r a (a.fetch r.pc) else Raised misaligned r.pc 0
