-- Statuses: how a hypercall ended, as the number that its caller finds in x10.
use Rattle.std.specs.Prelude.{ℕ}
use Rattle.nova_range.specs.declared.status.Status.{Status}
use Rattle.nova_range.specs.declared.status.Status.TheVariants.{Success, Timeout, Aborted, Overflow, BadHyp, BadCap, BadPar, BadCpu, Busy}

abbrev pub status_code : Status → ℕ
status_code Success = 0
status_code Timeout = 1
status_code Aborted = 2
status_code Overflow = 3
status_code BadHyp = 4
status_code BadCap = 5
status_code BadPar = 6
status_code BadCpu = 7
status_code Busy = 8
