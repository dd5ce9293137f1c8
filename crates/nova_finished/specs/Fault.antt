-- The texts of faults.
use Rattle.std.specs.Prelude.{ℕ, List, codes}
use Rattle.nova_order.specs.Fault.{at_line}
use Rattle.nova_finished.specs.declared.fault.RunFault.{RunFault}
use Rattle.nova_finished.specs.declared.fault.RunFault.TheVariants.{OrderIdle, Memory}

abbrev pub message_of : RunFault → List ℕ
message_of (OrderIdle line) = at_line line (codes "OrderIdle")
message_of Memory = codes "out of memory"
