use Rattle.law_renaming.proofs.Comparing.{agree_found, agree_made, forced_all}
use Rattle.law_renaming.proofs.renamings_are_forced.Goals as goal

pub returns-clause-pairs : goal.returns-clause-pairs
returns-clause-pairs c = λ r u v is js a b same pair. forced_all r u v is js same a b pair

pub returns-clause-enough : goal.returns-clause-enough
returns-clause-enough c = agree_made

pub returns-clause-found : goal.returns-clause-found
returns-clause-found c = agree_found
