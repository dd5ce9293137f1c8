use Rattle.law_views.proofs.Done.{asked_told, given_told, itself_told, nobody_told, only_own, own_told, replied_told, stored_told, taken_told}
use Rattle.law_views.proofs.Words.{answered_told}
use Rattle.law_views.proofs.what_is_done_is_told.Goals as goal

pub returns-clause-own : goal.returns-clause-own
returns-clause-own c = own_told

pub returns-clause-itself : goal.returns-clause-itself
returns-clause-itself c = itself_told

pub returns-clause-only : goal.returns-clause-only
returns-clause-only c = only_own

pub returns-clause-stored : goal.returns-clause-stored
returns-clause-stored c = stored_told

pub returns-clause-asked : goal.returns-clause-asked
returns-clause-asked c = asked_told

pub returns-clause-replied : goal.returns-clause-replied
returns-clause-replied c = replied_told

pub returns-clause-given : goal.returns-clause-given
returns-clause-given c = given_told

pub returns-clause-taken : goal.returns-clause-taken
returns-clause-taken c = taken_told

pub returns-clause-nobody : goal.returns-clause-nobody
returns-clause-nobody c = nobody_told

pub returns-clause-answered : goal.returns-clause-answered
returns-clause-answered c = answered_told
