use Rattle.std.specs.Prelude.{None}
use Rattle.nova_range.specs.declared.status.Status.TheVariants.{Aborted}
use Rattle.nova_model.specs.Deeds.{answered}
use Rattle.nova_model.specs.State.{ec_of}
use Rattle.nova_ec.proofs.Handlers.{put_other}
use Rattle.nova_ipc.proofs.CallChanges.{abort_caller}
use Rattle.nova_ipc.proofs.calls.laws.aborted_calls_answer_the_caller.Goals as goal

pub returns-clause-caller : goal.returns-clause-caller
returns-clause-caller c = abort_caller

pub returns-clause-others : goal.returns-clause-others
returns-clause-others c = λ cs caller e other. put_other cs caller e (answered (ec_of cs caller) Aborted None) other
