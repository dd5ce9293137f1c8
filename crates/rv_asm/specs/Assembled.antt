-- What `assemble` answers.
use Rattle.std.specs.Prelude.{◌≡◌, ℕ, Bool, true, List, Result, Ok, Err}
use Rattle.rv_asm.specs.declared.fault.AsmFault.{AsmFault}
use Rattle.rv_asm.specs.declared.fault.AsmFault.TheVariants.{UnknownName, BadOperand, OutOfRange, TwiceLabel, NoLabel, Memory}
use Rattle.std.specs.Global.{Vec}

-- want of memory may be answered instead of either
abbrev pub OrMemory : Result (List ℕ) AsmFault → AsmFault → Type 0
OrMemory wanted (UnknownName span) = wanted ≡ Err (UnknownName span)
OrMemory wanted (BadOperand span) = wanted ≡ Err (BadOperand span)
OrMemory wanted (OutOfRange span) = wanted ≡ Err (OutOfRange span)
OrMemory wanted (TwiceLabel span) = wanted ≡ Err (TwiceLabel span)
OrMemory wanted (NoLabel span) = wanted ≡ Err (NoLabel span)
OrMemory wanted Memory = Unit {0}

abbrev pub IsAssembled : Result (List ℕ) AsmFault → Result (Vec ℕ) AsmFault → Type 0
IsAssembled wanted (Ok words) = wanted ≡ Ok words.items
IsAssembled wanted (Err fault) = OrMemory wanted fault

-- Memory comes only where memory is taken
abbrev pub IsMemoryOnlyIf : Bool → AsmFault → Type 0
IsMemoryOnlyIf takes (UnknownName span) = Unit {0}
IsMemoryOnlyIf takes (BadOperand span) = Unit {0}
IsMemoryOnlyIf takes (OutOfRange span) = Unit {0}
IsMemoryOnlyIf takes (TwiceLabel span) = Unit {0}
IsMemoryOnlyIf takes (NoLabel span) = Unit {0}
IsMemoryOnlyIf takes Memory = takes ≡ true
