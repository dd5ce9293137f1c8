use Rattle.std.proofs.Common.{◌/◌}
use Rattle.nova_memory.proofs.Recents.{one_recent}
use Rattle.nova_memory.proofs.recent.Pages.learn.Goals as goal

pub returns : goal.returns
returns c = λ list pd right are is. one_recent list pd right c.place_of.result c.args.self.now (record { page = c.args.address / 4096; frame = c.args.frame }) are is
