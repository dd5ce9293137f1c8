use Rattle.law_turns.proofs.Passes.{rounds_run_out}
use Rattle.law_turns.proofs.orders.round_robin_runs_out.Goals as goal

pub returns : goal.returns
returns c = rounds_run_out
