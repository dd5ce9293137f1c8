use Rattle.std.proofs.Common.{refl}
use Rattle.nova_ipc.proofs.CallChanges.{reply_finishes}
use Rattle.nova_ipc.proofs.calls.laws.deeds_change_the_table_so.Goals as goal

pub returns-clause-calls : goal.returns-clause-calls
returns-clause-calls c = λ k ec handler ip identifier items. refl

pub returns-clause-helps : goal.returns-clause-helps
returns-clause-helps c = λ k ec handler. refl

pub returns-clause-replies : goal.returns-clause-replies
returns-clause-replies c = λ k ec caller. refl

pub returns-clause-finishes : goal.returns-clause-finishes
returns-clause-finishes c = reply_finishes

pub returns-clause-aborts : goal.returns-clause-aborts
returns-clause-aborts c = λ k ec handler. refl
