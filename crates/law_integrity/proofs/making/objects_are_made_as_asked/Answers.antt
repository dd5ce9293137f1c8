use Rattle.law_origins.proofs.Reachable.{reachable_sound}
use Rattle.law_integrity.proofs.Births.{made_asked, opening_asked}
use Rattle.law_integrity.proofs.Born.{asked_made, born_as, calling_made, opening_made}
use Rattle.law_integrity.proofs.making.objects_are_made_as_asked.Goals as goal

pub returns-clause-asked : goal.returns-clause-asked
returns-clause-asked c = made_asked

pub returns-clause-made : goal.returns-clause-made
returns-clause-made c = asked_made

pub returns-clause-turns : goal.returns-clause-turns
returns-clause-turns c = calling_made

pub returns-clause-opens : goal.returns-clause-opens
returns-clause-opens c = opening_asked

pub returns-clause-opened : goal.returns-clause-opened
returns-clause-opened c = opening_made

pub returns-clause-born : goal.returns-clause-born
returns-clause-born c = λ k cpu ec call target made at. born_as k cpu ec call target made (reachable_sound k at).kept.tables
