use Rattle.law_turns.proofs.Sharing.{children_shared}
use Rattle.law_turns.proofs.transfers.a_child_is_what_range_and_derivation_share.Goals as goal

pub returns : goal.returns
returns c = children_shared
