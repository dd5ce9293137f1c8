use Rattle.law_integrity.proofs.Edges.{local_edges}
use Rattle.law_integrity.proofs.Waits.{pays_itself}
use Rattle.law_integrity.proofs.running.only_handlers_are_paid_for.Goals as goal

pub returns-clause-edges : goal.returns-clause-edges
returns-clause-edges c k at = rw at.is (local_edges at.scenario at.before)

pub returns-clause-pays : goal.returns-clause-pays
returns-clause-pays c k cpu ec at = rw at.is (pays_itself at.scenario at.before cpu ec)
