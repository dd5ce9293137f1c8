use Rattle.nova_recording.proofs.Told.{told_is_change}
use Rattle.nova_recording.proofs.laws.a_store_told_is_the_change_of_its_turn.Goals as goal

pub returns : goal.returns
returns c = record { memory = told_is_change }
