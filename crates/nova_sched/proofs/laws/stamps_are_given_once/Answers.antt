use Rattle.nova_sched.proofs.Stamps.{stamps_are_given_once, foremost_is_alone}
use Rattle.nova_sched.proofs.laws.stamps_are_given_once.Goals as goal

pub returns-clause-once : goal.returns-clause-once
returns-clause-once c = stamps_are_given_once

pub returns-clause-alone : goal.returns-clause-alone
returns-clause-alone c = foremost_is_alone
