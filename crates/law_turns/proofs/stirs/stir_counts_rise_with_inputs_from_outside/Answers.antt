use Rattle.law_turns.proofs.Stirring.{counts_outside, counts_own, counts_nothing, counts_begin}
use Rattle.law_turns.proofs.stirs.stir_counts_rise_with_inputs_from_outside.Goals as goal

pub returns-clause-outside : goal.returns-clause-outside
returns-clause-outside c = counts_outside

pub returns-clause-own : goal.returns-clause-own
returns-clause-own c = counts_own

pub returns-clause-nothing : goal.returns-clause-nothing
returns-clause-nothing c = counts_nothing

pub returns-clause-begins : goal.returns-clause-begins
returns-clause-begins c = counts_begin
