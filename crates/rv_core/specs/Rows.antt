-- A row of the instruction table, as the program has it.
use Rattle.std.specs.Prelude.{◌≡◌, ◌<◌, ℕ, ◌^◌, List, Option}
use Rattle.std.specs.List.{find}
use Rattle.std.specs.Str.{bytes_eq}
use Rattle.rv_model.specs.Table.{row_of, mnemonics}
use Rattle.rv_model.specs.Codes.{has_row, code}
use Rattle.rv_model.specs.declared.instr.Operands.{Operands}
use Rattle.rv_model.specs.declared.mnemonic.Mnemonic.{Mnemonic}
use Rattle.rv_model.specs.Table as table
use Rattle.rv_core.specs.declared.table.Row.{Row}

pub record IsRow (found : Row) (wanted : table.Row) : Type 0 where
  pub name : found.name.now ≡ wanted.name
  pub format : found.format ≡ wanted.format
  pub opcode : found.opcode ≡ wanted.opcode
  pub funct3 : found.funct3 ≡ wanted.funct3
  pub funct7 : found.funct7 ≡ wanted.funct7

-- the name of the row that a word has
abbrev pub mnemonic_in : ℕ → Option Mnemonic
mnemonic_in w = find (λ m. has_row w (row_of m)) mnemonics

-- the instruction of a name
abbrev pub mnemonic_named : List ℕ → Option Mnemonic
mnemonic_named text = find (λ m. bytes_eq (row_of m).name text) mnemonics

-- the codes of a row fit their places: an opcode seven bits, funct3 three, funct7 seven
pub record HasCodes (r : Row) : Type 0 where
  pub opcode : r.opcode < 2 ^ 7
  pub funct3 : code r.funct3 < 2 ^ 3
  pub funct7 : code r.funct7 < 2 ^ 7

-- the registers are x0 to x31
pub record HasRegisters (o : Operands) : Type 0 where
  pub rd : o.rd < 32
  pub rs1 : o.rs1 < 32
  pub rs2 : o.rs2 < 32
