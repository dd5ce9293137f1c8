use Rattle.std.proofs.Common.{◌^◌, refl, arith}
use Rattle.nova_memory.proofs.Remembered.{none_recalled}
use Rattle.nova_memory.proofs.stepping.Recalled.none.Goals as goal

pub returns : goal.returns
returns c = λ list memory. none_recalled list memory 1024 (2 ^ 32) (record { scope = 0; address = 0; frame = 0; reading = c.nothing.result }) (omega arith) (omega arith) refl
