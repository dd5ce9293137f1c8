use Rattle.law_forest.proofs.Changes.{reached_change, turn_change, change_forest}
use Rattle.law_forest.proofs.a_turn_changes_one_derivation.Goals as goal

pub returns-clause-reached : goal.returns-clause-reached
returns-clause-reached c = reached_change

pub returns-clause-sound : goal.returns-clause-sound
returns-clause-sound c = turn_change

pub returns-clause-keeps : goal.returns-clause-keeps
returns-clause-keeps c = change_forest
