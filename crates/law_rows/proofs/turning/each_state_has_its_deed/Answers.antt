use Rattle.law_rows.proofs.States.{aborts, again, calls, guest_calls, raises, recalled, returns_then, startup, steps, takes}
use Rattle.law_rows.proofs.turning.each_state_has_its_deed.Goals as goal

pub returns-clause-startup : goal.returns-clause-startup
returns-clause-startup c = startup

pub returns-clause-recalled : goal.returns-clause-recalled
returns-clause-recalled c = recalled

pub returns-clause-steps : goal.returns-clause-steps
returns-clause-steps c = steps

pub returns-clause-raises : goal.returns-clause-raises
returns-clause-raises c = raises

pub returns-clause-guest_calls : goal.returns-clause-guest_calls
returns-clause-guest_calls c = guest_calls

pub returns-clause-calls : goal.returns-clause-calls
returns-clause-calls c = calls

pub returns-clause-again : goal.returns-clause-again
returns-clause-again c = again

pub returns-clause-aborts : goal.returns-clause-aborts
returns-clause-aborts c = aborts

pub returns-clause-removes : goal.returns-clause-removes
returns-clause-removes c = takes

pub returns-clause-returns : goal.returns-clause-returns
returns-clause-returns c = returns_then
