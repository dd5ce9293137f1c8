use Rattle.law_alike.proofs.Choosing.{same_choice}
use Rattle.law_alike.proofs.Given.{given_after, reached_given}
use Rattle.law_alike.proofs.Turns.{actors_alike, events_alike, reached_alike, runs_alike, traces_alike, turns_alike}
use Rattle.law_alike.proofs.laws.alike_states_have_alike_turns.Goals as goal

pub returns-clause-chosen : goal.returns-clause-chosen
returns-clause-chosen c = same_choice

pub returns-clause-actors : goal.returns-clause-actors
returns-clause-actors c = actors_alike

pub returns-clause-events : goal.returns-clause-events
returns-clause-events c = events_alike

pub returns-clause-turns : goal.returns-clause-turns
returns-clause-turns c = turns_alike

pub returns-clause-runs : goal.returns-clause-runs
returns-clause-runs c = runs_alike

pub returns-clause-traces : goal.returns-clause-traces
returns-clause-traces c = traces_alike

pub returns-clause-orders : goal.returns-clause-orders
returns-clause-orders c = reached_alike

pub returns-clause-given : goal.returns-clause-given
returns-clause-given c = given_after

pub returns-clause-reached : goal.returns-clause-reached
returns-clause-reached c = reached_given
