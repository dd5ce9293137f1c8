use Rattle.law_turns.proofs.Stamps.{stamps_below, stamps_apart, turn_rises}
use Rattle.law_turns.proofs.scheduling.stamps_are_given_once.Goals as goal

pub returns-clause-below : goal.returns-clause-below
returns-clause-below c = stamps_below

pub returns-clause-apart : goal.returns-clause-apart
returns-clause-apart c = stamps_apart

pub returns-clause-rising : goal.returns-clause-rising
returns-clause-rising c = turn_rises
