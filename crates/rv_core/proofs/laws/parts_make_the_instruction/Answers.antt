use Rattle.rv_core.proofs.Encoded.{parts_again}
use Rattle.rv_core.proofs.laws.parts_make_the_instruction.Goals as goal

pub returns : goal.returns
returns c = parts_again
