use Rattle.law_turns.proofs.Naming.{event_names, none_chosen, passing_names}
use Rattle.law_turns.proofs.events.an_event_names_the_chosen.Goals as goal

pub returns-clause-names : goal.returns-clause-names
returns-clause-names c = event_names

pub returns-clause-idle : goal.returns-clause-idle
returns-clause-idle c = none_chosen

pub returns-clause-nobody : goal.returns-clause-nobody
returns-clause-nobody c = passing_names
