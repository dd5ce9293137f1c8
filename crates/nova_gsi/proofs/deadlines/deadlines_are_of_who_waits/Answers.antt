use Rattle.nova_gsi.proofs.Setters.{had_deadline, left_none, sets_own}
use Rattle.nova_gsi.proofs.Since.{has_stood}
use Rattle.nova_gsi.proofs.deadlines.deadlines_are_of_who_waits.Goals as goal

pub returns-clause-set : goal.returns-clause-set
returns-clause-set c = sets_own

pub returns-clause-since : goal.returns-clause-since
returns-clause-since c = has_stood

pub returns-clause-late : goal.returns-clause-late
returns-clause-late c = had_deadline

pub returns-clause-woken : goal.returns-clause-woken
returns-clause-woken c = left_none
