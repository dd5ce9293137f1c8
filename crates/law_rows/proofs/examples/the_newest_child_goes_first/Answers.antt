use Rattle.law_rows.proofs.Worked.{given_goes, own_goes}
use Rattle.law_rows.proofs.examples.the_newest_child_goes_first.Goals as goal

pub returns-clause-given : goal.returns-clause-given
returns-clause-given c = given_goes

pub returns-clause-own_too : goal.returns-clause-own_too
returns-clause-own_too c = own_goes
