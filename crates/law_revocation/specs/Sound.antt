-- What always holds of a state, as far as laws of revokes along turns ask: delegations are a sound forest, and what turns keep holds.
use Rattle.nova_model.specs.Forest.{IsForest}
use Rattle.nova_model.specs.State.{KernelState}
use Rattle.law_turns.specs.Keeping.{IsKept}

pub record IsKeptForest (k : KernelState) : Type 0 where
  pub forest : IsForest k.delegations
  pub kept : IsKept k
