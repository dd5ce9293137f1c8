-- The names that an instruction may have, and the operands of each.
use Rattle.std.specs.Prelude.{ℕ, ◌==◌, List, [], ◌∷◌, Option, Some, None, option_map, codes, if◌then◌else◌}
use Rattle.std.specs.List.{find}
use Rattle.std.specs.Str.{bytes_eq}
use Rattle.rv_model.specs.Words.{field, extended, minus}
use Rattle.rv_model.specs.Table.{Row, row_of, instr_from, immediate_code}
use Rattle.rv_model.specs.Codes.{word_of}
use Rattle.rv_model.specs.declared.instr.Instr.{Instr}
use Rattle.rv_model.specs.declared.instr.Operands.{Operands}
use Rattle.rv_model.specs.declared.mnemonic.Format.{Format}
use Rattle.rv_model.specs.declared.mnemonic.Format.TheVariants as format
use Rattle.rv_model.specs.declared.mnemonic.Mnemonic.TheVariants as mnemonic
use Rattle.rv_core.specs.Rows.{mnemonic_named}
use Rattle.rv_asm.specs.declared.name.Name.{Name}
use Rattle.rv_asm.specs.declared.name.Name.TheVariants.{Instruction, Short}
use Rattle.rv_asm.specs.declared.name.ShortForm.{ShortForm}
use Rattle.rv_asm.specs.declared.name.ShortForm.TheVariants.{Nop, Mv, J, Ret, Li, Word}
use Rattle.rv_asm.specs.declared.slot.Slot.{Slot}
use Rattle.rv_asm.specs.declared.slot.Slot.TheVariants as slot

-- the short forms and `.word`
abbrev pub short_text : ShortForm → List ℕ
short_text Nop = codes "nop"
short_text Mv = codes "mv"
short_text J = codes "j"
short_text Ret = codes "ret"
short_text Li = codes "li"
short_text Word = codes ".word"

abbrev pub short_forms : List ShortForm
short_forms = Nop ∷ Mv ∷ J ∷ Ret ∷ Li ∷ Word ∷ []

abbrev pub or_instruction : Option ShortForm → List ℕ → Option Name
or_instruction (Some s) text = Some (Short s)
or_instruction None text = option_map Instruction (mnemonic_named text)

abbrev pub short_named : List ℕ → Option ShortForm
short_named text = find (λ s. bytes_eq (short_text s) text) short_forms

-- what a name means
abbrev pub name_of : List ℕ → Option Name
name_of text = or_instruction (short_named text) text

-- the targets of jal and of branches
abbrev pub jump_target : Slot
jump_target = slot.Target 1048576 1048574

abbrev pub branch_target : Slot
branch_target = slot.Target 4096 4094

-- the operands of a row of the instruction table: an operation on an immediate has it by itself, a load and jalr with rs1 in brackets
abbrev pub slots_in : Format → ℕ → List Slot
slots_in format.Register opcode = slot.Rd ∷ slot.Rs1 ∷ slot.Rs2 ∷ []
slots_in format.Immediate opcode = if opcode == immediate_code then slot.Rd ∷ slot.Rs1 ∷ slot.Number 2048 2047 ∷ [] else slot.Rd ∷ slot.Address ∷ []
slots_in format.Shift opcode = slot.Rd ∷ slot.Rs1 ∷ slot.Number 0 31 ∷ []
slots_in format.Store opcode = slot.Rs2 ∷ slot.Address ∷ []
slots_in format.Branch opcode = slot.Rs1 ∷ slot.Rs2 ∷ branch_target ∷ []
slots_in format.Upper opcode = slot.Rd ∷ slot.Upper ∷ []
slots_in format.Jump opcode = slot.Rd ∷ jump_target ∷ []
slots_in format.Fence opcode = []
slots_in (format.Alone word) opcode = []

abbrev pub row_slots : Row → List Slot
row_slots r = slots_in r.format r.opcode

-- the operands of a name
abbrev pub slots_of : Name → List Slot
slots_of (Instruction m) = row_slots (row_of m)
slots_of (Short Nop) = []
slots_of (Short Mv) = slot.Rd ∷ slot.Rs1 ∷ []
slots_of (Short J) = jump_target ∷ []
slots_of (Short Ret) = []
slots_of (Short Li) = slot.Rd ∷ slot.Number 2147483648 4294967295 ∷ []
slots_of (Short Word) = slot.Number 0 4294967295 ∷ []

abbrev pub no_operands : Operands
no_operands = record { rd = 0; rs1 = 0; rs2 = 0; imm = 0 }

-- the operands that are not written: `ret` goes to x1, and all others are 0
abbrev pub given : Name → Operands
given (Short Ret) = record { rd = 0; rs1 = 1; rs2 = 0; imm = 0 }
given (Instruction m) = no_operands
given (Short Nop) = no_operands
given (Short Mv) = no_operands
given (Short J) = no_operands
given (Short Li) = no_operands
given (Short Word) = no_operands

-- what a line is: instructions, or a number
pub data Item : Type 0 where
  Does : Instr → Item
  Holds : ℕ → Item

-- the upper and the lower part of a number that lui and addi put together: the lower twelve bits as a signed number, and the rest
abbrev pub lower_part : ℕ → ℕ
lower_part n = extended 12 (field n 0 12)

abbrev pub upper_part : ℕ → ℕ
upper_part n = minus n (lower_part n)

-- what a name means with its operands
abbrev pub items_of : Name → Operands → List Item
items_of (Instruction m) o = Does (instr_from m o) ∷ []
items_of (Short Nop) o = Does (instr_from mnemonic.Addi o) ∷ []
items_of (Short Mv) o = Does (instr_from mnemonic.Addi o) ∷ []
items_of (Short J) o = Does (instr_from mnemonic.Jal o) ∷ []
items_of (Short Ret) o = Does (instr_from mnemonic.Jalr o) ∷ []
items_of (Short Li) o = Does (instr_from mnemonic.Lui (record o { imm = upper_part o.imm })) ∷ Does (instr_from mnemonic.Addi (record o { rs1 = o.rd; imm = lower_part o.imm })) ∷ []
items_of (Short Word) o = Holds o.imm ∷ []

-- the word of each
abbrev pub item_word : Item → ℕ
item_word (Does i) = word_of i
item_word (Holds n) = n
