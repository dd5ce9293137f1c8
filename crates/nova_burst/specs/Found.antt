-- The virtual CPU that would step next on a processor, if it may be leased.
use Rattle.std.specs.Prelude.{◌≡◌, ◌<◌, ℕ}
use Rattle.nova_model.specs.Choice.{Candidate}
use Rattle.nova_model.specs.State.{KernelState, context, pd_of}
use Rattle.nova_model.specs.Times.{until_due}
use Rattle.nova_model.specs.declared.budget.Budget.{Budget}
use Rattle.law_leases.specs.Advances.{IsLeasable}
use Rattle.law_leases.specs.Commits.{IsReached, lesser, stirs_now}
use Rattle.nova_burst.specs.declared.leasing.Leasable.{Leasable}

-- the virtual CPU that would step next on a processor
pub record IsFound (k : KernelState) (cpu : ℕ) (r : Leasable) : Type 0 where
  pub state : IsReached k
  pub processor : cpu < k.cpus
  pub chosen : Candidate
  pub budget : Budget
  pub may : IsLeasable k cpu chosen budget
  pub actor : chosen.actor ≡ r.guest
  pub kept : r.kept ≡ stirs_now k r.guest cpu
  pub left : r.left ≡ lesser budget.left (until_due k.times cpu)
  pub pd : r.pd ≡ pd_of k r.guest
  pub regs : r.regs ≡ (context k r.guest).regs
