use Rattle.nova_turn.proofs.StoresSeen.{none_seen}
use Rattle.nova_turn.proofs.act.seers.Seers.none.Goals as goal

pub returns : goal.returns
returns c = λ k ec. none_seen k ec 4 0
