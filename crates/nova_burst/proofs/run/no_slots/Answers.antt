use Rattle.std.proofs.Common.{refl}
use Rattle.nova_burst.proofs.Grounded.{none_placed}
use Rattle.nova_burst.proofs.run.no_slots.Goals as goal

pub returns : goal.returns
returns c = none_placed 256 (record { address = 0; frame = 0; reading = c.nothing-reading.result }) (record { address = 4; frame = 0; reading = c.nothing-reading.result }) refl refl
