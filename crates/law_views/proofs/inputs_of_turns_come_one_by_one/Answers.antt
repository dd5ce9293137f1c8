use Rattle.law_views.proofs.Lists.{more_inputs, no_inputs, one_input}
use Rattle.law_views.proofs.inputs_of_turns_come_one_by_one.Goals as goal

pub returns-clause-none : goal.returns-clause-none
returns-clause-none c = no_inputs

pub returns-clause-one : goal.returns-clause-one
returns-clause-one c = one_input

pub returns-clause-more : goal.returns-clause-more
returns-clause-more c = more_inputs
