use Rattle.std.specs.Prelude.{None}
use Rattle.nova_range.specs.declared.status.Status.TheVariants.{Success}
use Rattle.nova_model.specs.Deeds.{answered, parked}
use Rattle.nova_model.specs.State.{ec_of}
use Rattle.nova_ec.proofs.Handlers.{both_first, both_others}
use Rattle.nova_ipc.proofs.CallChanges.{reply_caller}
use Rattle.nova_ipc.proofs.calls.laws.replies_answer_the_caller.Goals as goal

pub returns-clause-handler : goal.returns-clause-handler
returns-clause-handler c = λ cs handler caller is two. both_first cs handler caller (parked (ec_of cs handler)) (λ x. answered x Success None) is two

pub returns-clause-caller : goal.returns-clause-caller
returns-clause-caller c = reply_caller

pub returns-clause-others : goal.returns-clause-others
returns-clause-others c = λ cs handler caller e not_caller not_handler.
    both_others cs handler caller (parked (ec_of cs handler)) (λ x. answered x Success None) e not_handler not_caller
