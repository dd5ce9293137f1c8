use Rattle.std.proofs.Common.{◌%◌}
use Rattle.nova_turn.proofs.StoresSeen.{one_seen}
use Rattle.nova_turn.proofs.act.seers.Seers.learn.Goals as goal

pub returns : goal.returns
returns c = λ k ec are is. one_seen k ec (c.args.frame % 4) c.args.self.now (record { frame = c.args.frame; seer = c.args.seer }) are is
