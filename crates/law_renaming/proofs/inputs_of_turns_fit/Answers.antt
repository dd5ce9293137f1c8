use Rattle.law_renaming.proofs.Runs.{inputs_fit}
use Rattle.law_renaming.proofs.inputs_of_turns_fit.Goals as goal

pub returns : goal.returns
returns c = inputs_fit
