use Rattle.law_rows.proofs.Worked.{helping_ends, helping_tells}
use Rattle.law_rows.proofs.examples.who_helps_pays.Goals as goal

pub returns-clause-shows : goal.returns-clause-shows
returns-clause-shows c = helping_tells

pub returns-clause-leaves : goal.returns-clause-leaves
returns-clause-leaves c = helping_ends
