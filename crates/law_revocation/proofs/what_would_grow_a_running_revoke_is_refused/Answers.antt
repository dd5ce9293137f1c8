use Rattle.law_revocation.proofs.Refusing.{call_busy, joins_idle, part_skipped}
use Rattle.law_revocation.proofs.what_would_grow_a_running_revoke_is_refused.Goals as goal

pub returns-clause-joins : goal.returns-clause-joins
returns-clause-joins c = joins_idle

pub returns-clause-parts : goal.returns-clause-parts
returns-clause-parts c = part_skipped

pub returns-clause-calls : goal.returns-clause-calls
returns-clause-calls c = call_busy
