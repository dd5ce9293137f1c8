-- Faults of a text, and their names.
use Rattle.std.specs.Prelude.{ℕ, List, ◌++◌, codes, Result, Ok, Err}
use Rattle.std.specs.Fmt.{decimal}
use Rattle.nova_elf.specs.declared.fault.ElfFault.{ElfFault}
use Rattle.nova_elf.specs.declared.fault.ElfFault.TheVariants.{NotElf, Class, ByteOrder, Version, NotExec, Machine, Table, Dynamic, Segment, Memory as ElfMemory}
use Rattle.rv_asm.specs.declared.fault.AsmFault.TheVariants.{UnknownName, BadOperand, OutOfRange, TwiceLabel, NoLabel, Memory as AsmMemory}
use Rattle.nova_scenario.specs.declared.fault.ScenarioFault.{ScenarioFault}
use Rattle.nova_scenario.specs.declared.fault.ScenarioFault.TheVariants.{At as AtLine, Memory}
use Rattle.nova_scenario.specs.declared.fault.Why.{Why}
use Rattle.nova_scenario.specs.declared.fault.Why.TheVariants.{Syntax, Repeated, Missing, Range, Overlap, Asm, Elf}

-- what is wrong, at a line by its number
pub record At : Type 0 where
  pub line : ℕ
  pub why : Why

-- the name of what is wrong, without what it carries
abbrev pub elf_name : ElfFault → List ℕ
elf_name NotElf = codes "NotElf"
elf_name Class = codes "Class"
elf_name ByteOrder = codes "ByteOrder"
elf_name Version = codes "Version"
elf_name NotExec = codes "NotExec"
elf_name Machine = codes "Machine"
elf_name Table = codes "Table"
elf_name (Dynamic header) = codes "Dynamic"
elf_name (Segment header) = codes "Segment"
elf_name ElfMemory = codes "Memory"

abbrev pub name_of : Why → List ℕ
name_of Syntax = codes "Syntax"
name_of Repeated = codes "Repeated"
name_of Missing = codes "Missing"
name_of Range = codes "Range"
name_of Overlap = codes "Overlap"
name_of (Asm (UnknownName span)) = codes "UnknownName"
name_of (Asm (BadOperand span)) = codes "BadOperand"
name_of (Asm (OutOfRange span)) = codes "OutOfRange"
name_of (Asm (TwiceLabel span)) = codes "TwiceLabel"
name_of (Asm (NoLabel span)) = codes "NoLabel"
name_of (Asm AsmMemory) = codes "Memory"
name_of (Elf fault) = elf_name fault

-- the text of a fault
abbrev pub message_of : ScenarioFault → List ℕ
message_of (AtLine line why) = codes "line " ++ (decimal line ++ (codes ": " ++ name_of why))
message_of Memory = codes "out of memory"

-- what comes next, unless there is a fault
abbrev pub and_then : {A B E : Type 0} → Result A E → (A → Result B E) → Result B E
and_then (Err fault) next = Err fault
and_then (Ok x) next = next x

-- a fault at a line
abbrev pub at : {A : Type 0} → ℕ → Why → Result A At
at line why = Err (record { line = line; why = why })

abbrev pub on_line : {A : Type 0} → ℕ → Result A Why → Result A At
on_line line (Ok x) = Ok x
on_line line (Err why) = at line why
