use Rattle.law_sides.proofs.Reading.{read_told, told_reads}
use Rattle.law_sides.proofs.Once.{reads_once}
use Rattle.law_sides.proofs.laws.all_memory_that_two_sides_read_is_told.Goals as goal

pub returns-clause-all : goal.returns-clause-all
returns-clause-all c = read_told

pub returns-clause-only : goal.returns-clause-only
returns-clause-only c = told_reads

pub returns-clause-once : goal.returns-clause-once
returns-clause-once c = reads_once
