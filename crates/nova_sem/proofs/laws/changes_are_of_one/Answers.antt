use Rattle.nova_sem.proofs.Changes.{changes_are_of_one}
use Rattle.nova_sem.proofs.laws.changes_are_of_one.Goals as goal

pub returns : goal.returns
returns c = changes_are_of_one
