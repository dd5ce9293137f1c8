use Rattle.std.proofs.Common.{ℕ, subst, sym}
use Rattle.std.specs.Prelude.{IsTrue}
use Rattle.nova_model.specs.State.{KernelState}
use Rattle.nova_order.specs.Blocks.{turns, is_within}
use Rattle.nova_finished.specs.declared.fault.RunFault.TheVariants.{OrderIdle}
use Rattle.nova_finished.specs.Finished.{IsFinished}
use Rattle.nova_rounds.specs.UnderWay.{IsAlong}
use Rattle.nova_rounds.proofs.Blocks.{along_here, begun_here, idle_here}
use Rattle.nova_rounds.proofs.Keeping.{kept_fault, kept_holds, kept_runs}
use Rattle.nova_rounds.proofs.orders.run_order.Goals as goal

pub take_all-went-requires-clause-begun : goal.take_all-went-requires-clause-begun
take_all-went-requires-clause-begun c = begun_here c.args.kernel.state c.args.limit c.in_ok-run.run' c.in_ok-run.ensures.finished c.in_ok-run.ensures.ready

pub take_all-went-requires-clause-within : goal.take_all-went-requires-clause-within
take_all-went-requires-clause-within c =
    let begun = c.in_ok-run.ensures.finished in
    subst (λ (m : ℕ). IsTrue (is_within c.in_ok-run.run'.kernel.state.cpus m c.args.order.now.blocks)) (sym begun.limit)
    (subst (λ (k : KernelState). IsTrue (is_within k.cpus c.args.limit c.args.order.now.blocks)) (sym begun.kernel) c.requires.within)

pub returns-clause-finished : goal.returns-clause-finished
returns-clause-finished c =
    kept_runs c.take_all-went.new.run (IsFinished c.args.kernel.state (turns c.args.order.now.blocks) c.args.limit) c.kept.result c.take_all-went.result
    c.kept.ensures.run c.kept.ensures.went c.take_all-went.ensures.along
    (λ (a : IsAlong c.in_ok-run.run'.kernel.state c.in_ok-run.run'.limit c.take_all-went.new.run c.args.order.now.blocks).
    (along_here c.args.kernel.state c.args.limit c.in_ok-run.run' c.take_all-went.new.run c.args.order.now.blocks c.in_ok-run.ensures.finished a).finished)

pub returns-clause-no_idle : goal.returns-clause-no_idle
returns-clause-no_idle c =
    kept_holds c.kept.result c.take_all-went.result c.kept.ensures.went c.take_all-went.ensures.along
    (λ (a : IsAlong c.in_ok-run.run'.kernel.state c.in_ok-run.run'.limit c.take_all-went.new.run c.args.order.now.blocks).
    (along_here c.args.kernel.state c.args.limit c.in_ok-run.run' c.take_all-went.new.run c.args.order.now.blocks c.in_ok-run.ensures.finished a).free)

pub returns-clause-idle : goal.returns-clause-idle
returns-clause-idle c line is =
    idle_here c.args.kernel.state c.args.limit c.in_ok-run.run' c.args.order.now.blocks line c.in_ok-run.ensures.finished
    (c.take_all-went.ensures.idle line (kept_fault (OrderIdle line) c.kept.result c.take_all-went.result c.kept.ensures.fault is))
