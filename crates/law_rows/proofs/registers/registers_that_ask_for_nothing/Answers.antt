use Rattle.std.proofs.Common.{arith}
use Rattle.law_rows.proofs.Reading.{action_flag, call_flag, revoke_flag, unknown, unread}
use Rattle.law_rows.proofs.registers.registers_that_ask_for_nothing.Goals as goal

pub returns-clause-unknown : goal.returns-clause-unknown
returns-clause-unknown c = λ r above. unknown r (omega (arith, above))

pub returns-clause-unread : goal.returns-clause-unread
returns-clause-unread c = λ r status most is. unread r status (omega (arith, most)) is

pub returns-clause-call : goal.returns-clause-call
returns-clause-call c = call_flag

pub returns-clause-revoke : goal.returns-clause-revoke
returns-clause-revoke c = revoke_flag

pub returns-clause-semaphore : goal.returns-clause-semaphore
returns-clause-semaphore c = action_flag
