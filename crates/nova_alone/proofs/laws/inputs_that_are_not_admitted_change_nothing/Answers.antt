use Rattle.nova_alone.proofs.Inputs.{not_admitted}
use Rattle.nova_alone.proofs.laws.inputs_that_are_not_admitted_change_nothing.Goals as goal

pub returns : goal.returns
returns c = not_admitted
