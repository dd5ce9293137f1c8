use Rattle.nova_model.specs.Deeds.{parked, resumed}
use Rattle.nova_model.specs.State.{ec_of}
use Rattle.nova_model.specs.declared.context.Mark.TheVariants.{Exit}
use Rattle.nova_ec.proofs.Handlers.{both_first, both_others}
use Rattle.nova_ipc.proofs.ExitChanges.{reply_caller}
use Rattle.nova_ipc.proofs.exits.laws.replies_write_back.Goals as goal

pub returns-clause-handler : goal.returns-clause-handler
returns-clause-handler c = λ cs handler caller m is two. both_first cs handler caller (parked (ec_of cs handler)) (λ x. resumed x Exit m) is two

pub returns-clause-caller : goal.returns-clause-caller
returns-clause-caller c = reply_caller

pub returns-clause-others : goal.returns-clause-others
returns-clause-others c = λ cs handler caller e m not_caller not_handler.
    both_others cs handler caller (parked (ec_of cs handler)) (λ x. resumed x Exit m) e not_handler not_caller
