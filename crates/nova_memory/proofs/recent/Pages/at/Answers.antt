use Rattle.std.proofs.Common.{◌/◌, ◌%◌}
use Rattle.nova_memory.proofs.recent.Pages.at.Goals as goal

pub returns : goal.returns
returns c = λ list pd right are. are (c.args.address / 4096 % 8) c.recent_at.result.now c.recent_at.ensures
