use Rattle.law_rows.proofs.Alone.{identifiers_same, objects_same, others_stay, semaphores_same, times_same}
use Rattle.law_rows.proofs.turning.only_what_is_asked_for_changes_others.Goals as goal

pub returns-clause-semaphores : goal.returns-clause-semaphores
returns-clause-semaphores c = semaphores_same

pub returns-clause-identifiers : goal.returns-clause-identifiers
returns-clause-identifiers c = identifiers_same

pub returns-clause-times : goal.returns-clause-times
returns-clause-times c = times_same

pub returns-clause-objects : goal.returns-clause-objects
returns-clause-objects c = objects_same

pub returns-clause-contexts : goal.returns-clause-contexts
returns-clause-contexts c = others_stay
