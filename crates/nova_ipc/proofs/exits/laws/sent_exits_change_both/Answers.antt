use Rattle.std.proofs.Common.{arith}
use Rattle.std.specs.Prelude.{false}
use Rattle.nova_model.specs.declared.context.Mark.TheVariants.{Exit}
use Rattle.nova_ec.proofs.Handlers.{sent_caller, sent_handler, sent_others}
use Rattle.nova_ipc.proofs.ExitAdmits.{may_reply}
use Rattle.nova_ipc.proofs.exits.laws.sent_exits_change_both.Goals as goal

pub returns-clause-caller : goal.returns-clause-caller
returns-clause-caller c = λ cs ec handler ip identifier is. sent_caller cs ec handler Exit ip identifier false (may_reply cs ec handler is)

pub returns-clause-handler : goal.returns-clause-handler
returns-clause-handler c = λ cs ec handler ip identifier is file.
    sent_handler cs ec handler Exit ip identifier false (may_reply cs ec handler is) (omega (arith, file.size))

pub returns-clause-others : goal.returns-clause-others
returns-clause-others c = λ cs ec handler ip identifier e first second. sent_others cs ec handler Exit ip identifier false e first second
