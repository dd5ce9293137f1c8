-- The texts of the faults.
use Rattle.std.specs.Prelude.{ℕ, List, ◌++◌, codes}
use Rattle.std.specs.Fmt.{decimal}
use Rattle.nova_elf.specs.declared.fault.ElfFault.{ElfFault}
use Rattle.nova_elf.specs.declared.fault.ElfFault.TheVariants.{NotElf, Class, ByteOrder, Version, NotExec, Machine, Table, Dynamic, Segment, Memory}

abbrev pub message_of : ElfFault → List ℕ
message_of NotElf = codes "NotElf"
message_of Class = codes "Class"
message_of ByteOrder = codes "ByteOrder"
message_of Version = codes "Version"
message_of NotExec = codes "NotExec"
message_of Machine = codes "Machine"
message_of Table = codes "Table"
message_of (Dynamic index) = codes "header " ++ (decimal index ++ codes ": Dynamic")
message_of (Segment index) = codes "header " ++ (decimal index ++ codes ": Segment")
message_of Memory = codes "out of memory"
