use Rattle.law_turns.proofs.Idleness.{quiet_idle}
use Rattle.law_turns.proofs.quiet.quiet_is_every_processor_idle.Goals as goal

pub returns : goal.returns
returns c = quiet_idle
