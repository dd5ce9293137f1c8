use Rattle.nova_ec.proofs.Admitted.{exit_dies, exit_sent, exit_waits}
use Rattle.nova_ipc.proofs.exits.laws.exits_are_answered_in_order.Goals as goal

pub returns-clause-dies : goal.returns-clause-dies
returns-clause-dies c = exit_dies

pub returns-clause-sends : goal.returns-clause-sends
returns-clause-sends c = exit_sent

pub returns-clause-waits : goal.returns-clause-waits
returns-clause-waits c = exit_waits
