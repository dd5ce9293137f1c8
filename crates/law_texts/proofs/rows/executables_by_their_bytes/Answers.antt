use Rattle.std.proofs.Common.{refl}
use Rattle.nova_elf.specs.Executable.{first_fault, program}
use Rattle.nova_elf.specs.Fields.{half, word}
use Rattle.law_texts.proofs.rows.executables_by_their_bytes.Goals as goal

pub returns-clause-segment : goal.returns-clause-segment
unfolding program first_fault half word
returns-clause-segment c = refl

pub returns-clause-memory : goal.returns-clause-memory
unfolding program first_fault half word
returns-clause-memory c = refl

pub returns-clause-dynamic : goal.returns-clause-dynamic
unfolding program first_fault half word
returns-clause-dynamic c = refl

pub returns-clause-interpreter : goal.returns-clause-interpreter
unfolding program first_fault half word
returns-clause-interpreter c = refl

pub returns-clause-other : goal.returns-clause-other
unfolding program first_fault half word
returns-clause-other c = refl
