use Rattle.law_swaps.proofs.Any.{swapped_any}
use Rattle.law_swaps.proofs.Plain.{swapped}
use Rattle.law_swaps.proofs.laws.turns_that_are_apart_change_places.Goals as goal

pub returns-clause-any : goal.returns-clause-any
returns-clause-any c = swapped_any

pub returns-clause-plain : goal.returns-clause-plain
returns-clause-plain c = swapped
