use Rattle.law_sides.proofs.Lasting.{resting_isolated}
use Rattle.law_sides.proofs.Rest.{resting_acts, resting_holds, resting_reach, resting_turns}
use Rattle.law_sides.proofs.laws.sides_beside_what_rests_are_apart_for_good.Goals as goal

pub returns-clause-turns : goal.returns-clause-turns
returns-clause-turns c shared = resting_turns

pub returns-clause-isolated : goal.returns-clause-isolated
returns-clause-isolated c shared flows = resting_isolated

pub returns-clause-acts : goal.returns-clause-acts
returns-clause-acts c shared = resting_acts

pub returns-clause-reach : goal.returns-clause-reach
returns-clause-reach c shared = resting_reach

pub returns-clause-holds : goal.returns-clause-holds
returns-clause-holds c shared = resting_holds
