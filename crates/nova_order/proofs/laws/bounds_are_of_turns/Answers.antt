use Rattle.nova_order.proofs.TurnLemmas.{within_turns}
use Rattle.nova_order.proofs.laws.bounds_are_of_turns.Goals as goal

pub returns : goal.returns
returns c = within_turns
