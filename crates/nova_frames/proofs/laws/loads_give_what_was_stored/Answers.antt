use Rattle.nova_frames.proofs.Replaced.{read-written_same, read-written_other}
use Rattle.nova_frames.proofs.laws.loads_give_what_was_stored.Goals as goal

pub returns : goal.returns
returns c = record { same = read-written_same; others = read-written_other }
