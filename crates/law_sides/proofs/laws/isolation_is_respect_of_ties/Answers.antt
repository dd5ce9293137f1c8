use Rattle.nova_model.specs.Boot.{boot}
use Rattle.nova_model.specs.Runs.{run}
use Rattle.law_isolation.proofs.Runs.{reached_sound}
use Rattle.law_sides.proofs.Isolating.{respected_isolated}
use Rattle.law_sides.proofs.Respecting.{isolated_respects}
use Rattle.law_sides.proofs.laws.isolation_is_respect_of_ties.Goals as goal

pub returns-clause-respected : goal.returns-clause-respected
returns-clause-respected c shared flows = isolated_respects

pub returns-clause-isolated : goal.returns-clause-isolated
returns-clause-isolated c shared flows s turns label all = respected_isolated (run (boot s) turns) label (reached_sound s turns).kept.tables all
