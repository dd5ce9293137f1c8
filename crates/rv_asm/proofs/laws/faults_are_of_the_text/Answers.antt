use Rattle.rv_asm.proofs.TextFaults.{no_memory}
use Rattle.rv_asm.proofs.laws.faults_are_of_the_text.Goals as goal

pub returns : goal.returns
returns c = no_memory
