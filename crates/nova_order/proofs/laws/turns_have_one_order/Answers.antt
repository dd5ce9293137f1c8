use Rattle.nova_order.proofs.TurnLemmas.{has_order, one_order}
use Rattle.nova_order.proofs.laws.turns_have_one_order.Goals as goal

pub returns-clause-there : goal.returns-clause-there
returns-clause-there c = has_order

pub returns-clause-one : goal.returns-clause-one
returns-clause-one c = one_order
