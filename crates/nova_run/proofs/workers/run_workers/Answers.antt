use Rattle.std.proofs.Common.{◌≡◌}
use Rattle.law_turns.specs.Orders.{IsRunOut}
use Rattle.nova_order.specs.Blocks.{turns}
use Rattle.nova_finished.specs.declared.fault.RunFault.TheVariants.{Memory}
use Rattle.nova_finished.specs.Finished.{IsFinished}
use Rattle.nova_run.proofs.Ends.{finished_out, all_out}
use Rattle.nova_rounds.proofs.Keeping.{kept_fails, kept_runs}
use Rattle.nova_run.proofs.workers.run_workers.Goals as goal

pub returns-clause-finished : goal.returns-clause-finished
returns-clause-finished g c =
    kept_runs c.run_all-went.new.run (λ f. IsFinished c.args.kernel.state (turns f.order.blocks) c.args.limit f) c.kept.result c.run_all-went.result
    c.kept.ensures.run c.kept.ensures.went c.run_all-went.ensures.passed
    (λ passed. finished_out c.args.kernel.state c.args.limit c.in_ok-run.run' c.run_all-went.new.run c.in_ok-run.ensures.finished c.in_ok-run.ensures.ready passed)

pub returns-clause-out : goal.returns-clause-out
returns-clause-out g c =
    kept_runs c.run_all-went.new.run (λ f. IsRunOut c.args.kernel.state c.args.limit (turns f.order.blocks)) c.kept.result c.run_all-went.result
    c.kept.ensures.run c.kept.ensures.went c.run_all-went.ensures.passed
    (λ passed. all_out c.args.kernel.state c.args.limit c.in_ok-run.run' c.run_all-went.new.run c.in_ok-run.ensures.finished c.in_ok-run.ensures.ready passed
    c.in_ok-run.ensures.no_idle c.in_ok-run.ensures.processors)

pub returns-clause-memory : goal.returns-clause-memory
returns-clause-memory g c = kept_fails (λ fault. fault ≡ Memory) c.kept.result c.run_all-went.result c.kept.ensures.fault c.run_all-went.ensures.memory
