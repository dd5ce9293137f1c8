-- What is printed of a fault.
use Rattle.std.specs.Prelude.{ℕ, List, ◌++◌, codes}
use Rattle.nova_text.specs.Printed.{span_text}
use Rattle.rv_asm.specs.declared.fault.AsmFault.{AsmFault}
use Rattle.rv_asm.specs.declared.fault.AsmFault.TheVariants.{UnknownName, BadOperand, OutOfRange, TwiceLabel, NoLabel, Memory}

-- what is wrong, and where
abbrev pub fault_text : AsmFault → List ℕ
fault_text (UnknownName span) = codes "unknown name at " ++ span_text span
fault_text (BadOperand span) = codes "bad operand at " ++ span_text span
fault_text (OutOfRange span) = codes "out of range at " ++ span_text span
fault_text (TwiceLabel span) = codes "label given twice at " ++ span_text span
fault_text (NoLabel span) = codes "no such label at " ++ span_text span
fault_text Memory = codes "out of memory"
