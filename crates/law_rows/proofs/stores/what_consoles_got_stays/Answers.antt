use Rattle.law_rows.proofs.Consoles.{run_gains, turn_gains}
use Rattle.law_rows.proofs.stores.what_consoles_got_stays.Goals as goal

pub returns-clause-turn : goal.returns-clause-turn
returns-clause-turn c = turn_gains

pub returns-clause-run : goal.returns-clause-run
returns-clause-run c = run_gains
