use Rattle.law_alike.proofs.Turns.{flipped, itself, recounted, through}
use Rattle.law_alike.proofs.laws.alikeness_is_an_equivalence.Goals as goal

pub returns-clause-reflexive : goal.returns-clause-reflexive
returns-clause-reflexive c = itself

pub returns-clause-counts : goal.returns-clause-counts
returns-clause-counts c = recounted

pub returns-clause-symmetric : goal.returns-clause-symmetric
returns-clause-symmetric c = flipped

pub returns-clause-transitive : goal.returns-clause-transitive
returns-clause-transitive c = through
