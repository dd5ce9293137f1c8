-- What a commit that goes through asks of the state.
use Rattle.std.specs.Prelude.{◌≡◌, ◌≤◌, ℕ, ◌+◌, ◌^◌}
use Rattle.nova_model.specs.State.{KernelState}
use Rattle.law_leases.specs.Commits.{LeaseRun, MayAdvance}
use Rattle.law_leases.specs.declared.commit.CommitDone.{CommitDone}
use Rattle.law_leases.specs.declared.commit.CommitDone.TheVariants.{Committed}

-- the lease's steps may be laid over it, as `n` turns
pub record IsToBeTaken (k : KernelState) (l : LeaseRun) (n : ℕ) : Type 0 where
  pub may : MayAdvance k l.cpu l.steps
  pub count : l.steps.count ≡ n
  pub turns : k.turns + l.steps.count ≤ 2 ^ 31

abbrev pub MayTakeOver : KernelState → LeaseRun → CommitDone → Type 0
MayTakeOver k l (Committed n) = IsToBeTaken k l n
MayTakeOver k l other = Unit {0}
