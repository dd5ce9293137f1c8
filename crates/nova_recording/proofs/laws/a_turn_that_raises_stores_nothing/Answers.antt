use Rattle.nova_recording.proofs.Told.{raised_told}
use Rattle.nova_recording.proofs.laws.a_turn_that_raises_stores_nothing.Goals as goal

pub returns : goal.returns
returns c = record { none = raised_told }
