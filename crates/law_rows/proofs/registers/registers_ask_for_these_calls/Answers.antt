use Rattle.law_rows.proofs.Reading.{call_at_once, call_waits, down_read, identifier_read, lookup_read, recall_read, reply_read, revoke_own, revoke_read, ticks_read, up_read, within_read}
use Rattle.law_rows.proofs.registers.registers_ask_for_these_calls.Goals as goal

pub returns-clause-waiting_call : goal.returns-clause-waiting_call
returns-clause-waiting_call c = call_waits

pub returns-clause-call : goal.returns-clause-call
returns-clause-call c = call_at_once

pub returns-clause-reply : goal.returns-clause-reply
returns-clause-reply c = reply_read

pub returns-clause-revoke : goal.returns-clause-revoke
returns-clause-revoke c = revoke_read

pub returns-clause-own_too : goal.returns-clause-own_too
returns-clause-own_too c = revoke_own

pub returns-clause-lookup : goal.returns-clause-lookup
returns-clause-lookup c = lookup_read

pub returns-clause-recall : goal.returns-clause-recall
returns-clause-recall c = recall_read

pub returns-clause-ticks : goal.returns-clause-ticks
returns-clause-ticks c = ticks_read

pub returns-clause-identifier : goal.returns-clause-identifier
returns-clause-identifier c = identifier_read

pub returns-clause-up : goal.returns-clause-up
returns-clause-up c = up_read

pub returns-clause-down : goal.returns-clause-down
returns-clause-down c = down_read

pub returns-clause-within : goal.returns-clause-within
returns-clause-within c = within_read
