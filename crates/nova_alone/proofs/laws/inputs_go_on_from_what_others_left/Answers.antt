use Rattle.nova_alone.proofs.Inputs.{alone_later, outputs_later}
use Rattle.nova_alone.proofs.laws.inputs_go_on_from_what_others_left.Goals as goal

pub returns-clause-guest : goal.returns-clause-guest
returns-clause-guest c = alone_later

pub returns-clause-outs : goal.returns-clause-outs
returns-clause-outs c = outputs_later
