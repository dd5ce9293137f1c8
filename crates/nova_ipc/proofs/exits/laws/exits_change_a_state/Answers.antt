use Rattle.std.proofs.Common.{refl}
use Rattle.nova_model.specs.declared.context.State.TheVariants.{Dead, Exiting, Sending}
use Rattle.nova_ec.proofs.Handlers.{turned, turned_others}
use Rattle.nova_ipc.proofs.exits.laws.exits_change_a_state.Goals as goal

pub returns-clause-raised : goal.returns-clause-raised
returns-clause-raised c = λ cs ec reason q0 q1 is. turned cs ec (Exiting reason q0 q1) is

pub returns-clause-waiting : goal.returns-clause-waiting
returns-clause-waiting c = λ cs ec handler reason q0 q1 is. turned cs ec (Sending reason q0 q1 handler) is

pub returns-clause-dead : goal.returns-clause-dead
returns-clause-dead c = λ cs ec is. turned cs ec Dead is

pub returns-clause-others : goal.returns-clause-others
returns-clause-others c = turned_others

pub returns-clause-kept : goal.returns-clause-kept
returns-clause-kept c = λ reason q0 q1 handler. (refl, refl)
