use Rattle.std.proofs.Common.{refl}
use Rattle.rv_model.specs.Codes.{instr_of}
use Rattle.rv_core.proofs.readings.nothing.Goals as goal

pub invariant_of-result-clause-reads : goal.invariant_of-result-clause-reads
unfolding instr_of
invariant_of-result-clause-reads c = refl
