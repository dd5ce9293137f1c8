use Rattle.law_rows.proofs.Refusing.{refused}
use Rattle.law_rows.proofs.refusals.refusals_are_of_rows.Goals as goal

pub returns : goal.returns
returns c = refused
