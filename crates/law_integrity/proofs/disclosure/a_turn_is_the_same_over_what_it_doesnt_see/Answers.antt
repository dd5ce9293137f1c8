use Rattle.law_integrity.proofs.Unseen.{event_unseen, sides_unseen, turn_unseen}
use Rattle.law_integrity.proofs.disclosure.a_turn_is_the_same_over_what_it_doesnt_see.Goals as goal

pub returns-clause-turn : goal.returns-clause-turn
returns-clause-turn c = turn_unseen

pub returns-clause-event : goal.returns-clause-event
returns-clause-event c = event_unseen

pub returns-clause-guests : goal.returns-clause-guests
returns-clause-guests c k turns guest monitor other_guest other_monitor cpu ec secrets at = rw at.is (sides_unseen at.scenario at.before turns guest monitor other_guest other_monitor cpu ec secrets)
