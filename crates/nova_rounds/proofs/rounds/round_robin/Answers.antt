use Rattle.std.proofs.Common.{◌≡◌}
use Rattle.nova_model.specs.Runs.{rounds}
use Rattle.nova_finished.specs.declared.fault.RunFault.TheVariants.{Memory}
use Rattle.nova_finished.specs.Finished.{IsFinished}
use Rattle.nova_rounds.proofs.Keeping.{kept_fails, kept_runs}
use Rattle.nova_rounds.proofs.Passes.{Finished-rounds}
use Rattle.nova_rounds.proofs.rounds.round_robin.Goals as goal

pub returns-clause-finished : goal.returns-clause-finished
returns-clause-finished c =
    kept_runs c.run_all-went.new.run (IsFinished c.args.kernel.state (rounds c.args.kernel.state c.args.limit) c.args.limit) c.kept.result c.run_all-went.result
    c.kept.ensures.run c.kept.ensures.went c.run_all-went.ensures.passed
    (λ passed. Finished-rounds c.args.kernel.state c.in_ok-run.run' c.run_all-went.new.run c.args.limit c.in_ok-run.ensures.finished passed)

pub returns-clause-memory : goal.returns-clause-memory
returns-clause-memory c = kept_fails (λ fault. fault ≡ Memory) c.kept.result c.run_all-went.result c.kept.ensures.fault c.run_all-went.ensures.memory
