-- The text of an instruction.
use Rattle.std.specs.Prelude.{ℕ, ◌+◌, ◌-◌, ◌==◌, ◌/◌, ◌^◌, List, [], ◌∷◌, ◌++◌, map, nat_lt, codes, false, if◌then◌else◌}
use Rattle.std.specs.Fmt.{decimal, digits}
use Rattle.rv_model.specs.Table.{row_of, mnemonic_of, operands_of}
use Rattle.rv_model.specs.declared.instr.Instr.{Instr}
use Rattle.rv_model.specs.declared.instr.Operands.{Operands}
use Rattle.rv_asm.specs.Name.{row_slots}
use Rattle.rv_asm.specs.declared.slot.Slot.{Slot}
use Rattle.rv_asm.specs.declared.slot.Slot.TheVariants.{Rd, Rs1, Rs2, Number, Upper, Address, Target}

-- x0 to x31
abbrev pub register_text : ℕ → List ℕ
register_text r = codes "x" ++ decimal r

-- a word as a signed number, in decimal
abbrev pub signed_text : ℕ → List ℕ
signed_text n = if nat_lt n (2 ^ 31) then decimal n else codes "-" ++ decimal (2 ^ 32 - n)

-- the upper twenty bits in hexadecimal
abbrev pub upper_text : ℕ → List ℕ
upper_text n = codes "0x" ++ digits 16 false (n / 2 ^ 12)

-- the text of an operand
abbrev pub operand_text : Operands → Slot → List ℕ
operand_text o Rd = register_text o.rd
operand_text o Rs1 = register_text o.rs1
operand_text o Rs2 = register_text o.rs2
operand_text o (Number low high) = signed_text o.imm
operand_text o Upper = upper_text o.imm
operand_text o Address = signed_text o.imm ++ (codes "(" ++ (register_text o.rs1 ++ codes ")"))
operand_text o (Target low high) = signed_text o.imm

-- what stands in front of an operand: a space before the first, and `, ` before each other
abbrev pub separator : ℕ → List ℕ
separator index = if index == 0 then codes " " else codes ", "

-- texts from that of an index on, each after its separator
abbrev pub separated_from : ℕ → List (List ℕ) → List ℕ
separated_from index [] = []
separated_from index (text ∷ texts) = separator index ++ (text ++ separated_from (index + 1) texts)

-- the name, a space and the operands; the name alone where there are none
unfoldable pub printed : Instr → List ℕ
printed i =
    let row = row_of (mnemonic_of i) in row.name ++ separated_from 0 (map (operand_text (operands_of i)) (row_slots row))
