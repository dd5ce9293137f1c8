use Rattle.nova_model.specs.declared.context.State.TheVariants.{Helping}
use Rattle.nova_ec.proofs.Handlers.{turned, turned_others}
use Rattle.nova_ipc.proofs.calls.laws.helping_changes_a_state.Goals as goal

pub returns-clause-caller : goal.returns-clause-caller
returns-clause-caller c = λ cs caller handler is. turned cs caller (Helping handler) is

pub returns-clause-others : goal.returns-clause-others
returns-clause-others c = λ cs caller handler e other. turned_others cs caller e (Helping handler) other
