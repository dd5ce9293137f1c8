-- What holds of a kernel between turns.
use Rattle.std.specs.Prelude.{List, Option}
use Rattle.law_leases.specs.Commits.{IsReached}
use Rattle.nova_choice.specs.declared.choice.Chosen.{Chosen}
use Rattle.nova_turn.specs.Going.{AreInStep}
use Rattle.nova_turn.specs.Known.{AreKnown}
use Rattle.nova_turn.specs.Parts.{state_of}
use Rattle.nova_turn.specs.declared.parts.Parts.{Parts}
use Rattle.nova_kernel.specs.Begun.{IsBegun}

-- its tables agree, bursts find what they stand on, what it knows of choices is so, and it began at a boot
pub record IsSoundKernel (p : Parts) (choices : List (Option Chosen)) : Type 0 where
  pub tables : AreInStep p
  pub reached : IsReached (state_of p)
  pub known : AreKnown (state_of p) choices
  pub begun : IsBegun (state_of p)
