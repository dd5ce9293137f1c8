use Rattle.law_revocation.proofs.Taking.{cleared, taken}
use Rattle.law_revocation.proofs.a_scope_is_what_comes_from_the_range.Goals as goal

pub returns-clause-members : goal.returns-clause-members
returns-clause-members c = taken

pub returns-clause-none : goal.returns-clause-none
returns-clause-none c = cleared
