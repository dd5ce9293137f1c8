use Rattle.nova_calls.proofs.Sound.{read_sound}
use Rattle.nova_calls.proofs.laws.calls_that_are_read.Goals as goal

pub returns : goal.returns
returns c = read_sound
