use Rattle.std.proofs.Common.{arith}
use Rattle.std.specs.Prelude.{false}
use Rattle.nova_model.specs.declared.context.Mark.TheVariants.{Call}
use Rattle.nova_ec.proofs.Handlers.{sent_caller, sent_handler, sent_others}
use Rattle.nova_ipc.proofs.CallAdmits.{may_reply}
use Rattle.nova_ipc.proofs.calls.laws.sent_calls_change_both.Goals as goal

pub returns-clause-caller : goal.returns-clause-caller
returns-clause-caller c = λ cs caller handler ip identifier items is. sent_caller cs caller handler Call ip identifier items (may_reply cs caller handler false is)

pub returns-clause-handler : goal.returns-clause-handler
returns-clause-handler c = λ cs caller handler ip identifier items is file.
    sent_handler cs caller handler Call ip identifier items (may_reply cs caller handler false is) (omega (arith, file.size))

pub returns-clause-others : goal.returns-clause-others
returns-clause-others c = λ cs caller handler ip identifier e items first second. sent_others cs caller handler Call ip identifier items e first second
