use Rattle.law_integrity.proofs.MeetingApart.{first_acts, nothing_shared, second_acts}
use Rattle.law_integrity.proofs.MeetingServed.{guest_acts, within_policy}
use Rattle.law_integrity.proofs.examples.runs_come_to_the_conditions.Goals as goal

pub returns-clause-apart : goal.returns-clause-apart
returns-clause-apart c = nothing_shared

pub returns-clause-first : goal.returns-clause-first
returns-clause-first c = first_acts

pub returns-clause-second : goal.returns-clause-second
returns-clause-second c = second_acts

pub returns-clause-served : goal.returns-clause-served
returns-clause-served c = within_policy

pub returns-clause-guest : goal.returns-clause-guest
returns-clause-guest c = guest_acts
