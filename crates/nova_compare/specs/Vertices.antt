-- A vertex of the graph of states.
use Rattle.std.specs.Prelude.{◌≡◌}
use Rattle.nova_model.specs.Boot.{Scenario, boot}
use Rattle.nova_model.specs.State.{KernelState}
use Rattle.law_turns.specs.Keeping.{IsKept}
use Rattle.law_alike.specs.Alike.{AreStampsGiven}
use Rattle.law_sameness.specs.Counts.{Counts, counts_of}
use Rattle.law_sameness.specs.States.{AreZero}

-- a state in which a kernel begins
pub record IsBooted (k : KernelState) : Type 0 where
  pub scenario : Scenario
  pub is : k ≡ boot scenario

-- what holds of a vertex: of its state what turns keep, its stamps are below the next, and it is counted
pub record IsVertex (k : KernelState) (t : Counts) : Type 0 where
  pub kept : IsKept k
  pub given : AreStampsGiven k
  pub zero : AreZero k
  pub counts : t ≡ counts_of k
  pub processors : k.stirs.processors ≡ k.times.clocks
