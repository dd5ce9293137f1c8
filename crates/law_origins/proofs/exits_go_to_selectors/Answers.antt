use Rattle.law_origins.proofs.Bases.{reached_events, reached_selectors}
use Rattle.law_origins.proofs.exits_go_to_selectors.Goals as goal

pub returns-clause-events : goal.returns-clause-events
returns-clause-events c = reached_events

pub returns-clause-selectors : goal.returns-clause-selectors
returns-clause-selectors c = reached_selectors
