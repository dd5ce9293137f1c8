use Rattle.nova_sched.proofs.Others.{marked_changes_one, charged_changes_one, added_changes_one}
use Rattle.nova_sched.proofs.laws.changes_are_of_one.Goals as goal

pub returns-clause-marked : goal.returns-clause-marked
returns-clause-marked c = marked_changes_one

pub returns-clause-charged : goal.returns-clause-charged
returns-clause-charged c = charged_changes_one

pub returns-clause-added : goal.returns-clause-added
returns-clause-added c = added_changes_one
