use Rattle.law_isolation.proofs.Runs.{run_alone}
use Rattle.law_isolation.proofs.a_run_is_a_guest_alone_over_its_inputs.Goals as goal

pub returns : goal.returns
returns c = run_alone
