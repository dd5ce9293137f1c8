-- The item that an execution context gives.
use Rattle.std.specs.Prelude.{ℕ}
use Rattle.nova_range.specs.Ranges.{IsRange}
use Rattle.nova_model.specs.State.{KernelState, transfer}
use Rattle.nova_model.specs.Transfers.{dest_of, source_of}
use Rattle.nova_model.specs.declared.transfer.Job.{Job}

-- where it goes on with it: from its cursor on
abbrev pub job_at_cursor : KernelState → ℕ → Job → Job
job_at_cursor k ec j = record j { cursor = (transfer k ec).cursor }

-- what it gives and where it gives it are ranges
pub record AreRanges (j : Job) : Type 0 where
  pub source : IsRange (source_of j)
  pub dest : IsRange (dest_of j)
