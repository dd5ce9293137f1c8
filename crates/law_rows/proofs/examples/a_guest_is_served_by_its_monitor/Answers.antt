use Rattle.law_rows.proofs.Worked.{watching_ends, watching_tells}
use Rattle.law_rows.proofs.examples.a_guest_is_served_by_its_monitor.Goals as goal

pub returns-clause-shows : goal.returns-clause-shows
returns-clause-shows c = watching_tells

pub returns-clause-leaves : goal.returns-clause-leaves
returns-clause-leaves c = watching_ends
