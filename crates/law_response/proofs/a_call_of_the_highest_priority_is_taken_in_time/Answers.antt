use Rattle.law_response.proofs.Taken.{helps_in_time, taken_then}
use Rattle.law_response.proofs.a_call_of_the_highest_priority_is_taken_in_time.Goals as goal

pub returns-clause-helps : goal.returns-clause-helps
returns-clause-helps c = helps_in_time

pub returns-clause-taken : goal.returns-clause-taken
returns-clause-taken c = taken_then
