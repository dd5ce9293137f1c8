use Rattle.law_leases.proofs.Committed.{commit_traced, commits, committed, may_commit, still_busy}
use Rattle.law_leases.proofs.laws.a_commit_is_as_many_turns.Goals as goal

pub returns-clause-busy : goal.returns-clause-busy
returns-clause-busy c = still_busy

pub returns-clause-answer : goal.returns-clause-answer
returns-clause-answer c = committed

pub returns-clause-may : goal.returns-clause-may
returns-clause-may c = may_commit

pub returns-clause-state : goal.returns-clause-state
returns-clause-state c = commits

pub returns-clause-events : goal.returns-clause-events
returns-clause-events c = commit_traced
