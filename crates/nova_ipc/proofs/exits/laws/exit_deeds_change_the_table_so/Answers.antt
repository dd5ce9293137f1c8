use Rattle.std.proofs.Common.{refl}
use Rattle.nova_ipc.proofs.ExitChanges.{sent_message, reply_finishes}
use Rattle.nova_ipc.proofs.exits.laws.exit_deeds_change_the_table_so.Goals as goal

pub returns-clause-waits : goal.returns-clause-waits
returns-clause-waits c = λ k ec handler reason q0 q1. refl

pub returns-clause-sends : goal.returns-clause-sends
returns-clause-sends c = λ k ec handler ip identifier reason q0 q1 mtd. refl

pub returns-clause-message : goal.returns-clause-message
returns-clause-message c = sent_message

pub returns-clause-dies : goal.returns-clause-dies
returns-clause-dies c = λ k ec reason q0. refl

pub returns-clause-aborts : goal.returns-clause-aborts
returns-clause-aborts c = λ k ec handler. refl

pub returns-clause-replies : goal.returns-clause-replies
returns-clause-replies c = λ k ec caller. refl

pub returns-clause-finishes : goal.returns-clause-finishes
returns-clause-finishes c = reply_finishes
