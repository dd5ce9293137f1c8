use Rattle.std.proofs.Common.{refl}
use Rattle.nova_memory.proofs.Recents.{none_recent}
use Rattle.nova_memory.proofs.recent.Pages.none.Goals as goal

pub returns : goal.returns
returns c = λ list pd right. none_recent list pd right 8 (record { page = 1048576; frame = 0 }) refl
