use Rattle.law_isolation.proofs.Admitted.{input_admitted}
use Rattle.law_isolation.proofs.Ranges.{boot_ranges, turn_ranges, view_guest}
use Rattle.law_isolation.proofs.views_and_inputs_are_admitted.Goals as goal

pub returns-clause-begins : goal.returns-clause-begins
returns-clause-begins c = boot_ranges

pub returns-clause-turns : goal.returns-clause-turns
returns-clause-turns c = turn_ranges

pub returns-clause-views : goal.returns-clause-views
returns-clause-views c = view_guest

pub returns-clause-inputs : goal.returns-clause-inputs
returns-clause-inputs c = input_admitted
