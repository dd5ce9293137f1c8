-- The texts of faults.
use Rattle.std.specs.Prelude.{ℕ, List, ◌++◌, codes}
use Rattle.std.specs.Fmt.{decimal}
use Rattle.nova_order.specs.declared.fault.OrderFault.{OrderFault}
use Rattle.nova_order.specs.declared.fault.OrderFault.TheVariants.{BadLine, BadCpu, ZeroCount, NotMerged, TooMany, Memory}

-- what is wrong with a line
abbrev pub at_line : ℕ → List ℕ → List ℕ
at_line line name = codes "line " ++ (decimal line ++ (codes ": " ++ name))

abbrev pub message_of : OrderFault → List ℕ
message_of (BadLine line) = at_line line (codes "BadLine")
message_of (BadCpu line) = at_line line (codes "BadCpu")
message_of (ZeroCount line) = at_line line (codes "ZeroCount")
message_of (NotMerged line) = at_line line (codes "NotMerged")
message_of (TooMany line) = at_line line (codes "TooMany")
message_of Memory = codes "out of memory"
