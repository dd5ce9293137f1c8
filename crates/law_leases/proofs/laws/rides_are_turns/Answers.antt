use Rattle.law_leases.proofs.Riding.{rode}
use Rattle.law_leases.proofs.laws.rides_are_turns.Goals as goal

pub returns-clause-state : goal.returns-clause-state
returns-clause-state c = λ n k m cpu c b may most early goes. (rode n k m cpu c b may most early goes).state

pub returns-clause-events : goal.returns-clause-events
returns-clause-events c = λ n k m cpu c b may most early goes. (rode n k m cpu c b may most early goes).events
