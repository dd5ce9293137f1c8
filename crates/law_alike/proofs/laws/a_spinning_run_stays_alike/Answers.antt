use Rattle.law_alike.proofs.Spinning.{differs, spins}
use Rattle.law_alike.proofs.laws.a_spinning_run_stays_alike.Goals as goal

pub returns-clause-alike : goal.returns-clause-alike
returns-clause-alike c = spins

pub returns-clause-differ : goal.returns-clause-differ
returns-clause-differ c = differs
