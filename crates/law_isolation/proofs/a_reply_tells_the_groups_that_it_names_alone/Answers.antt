use Rattle.law_isolation.proofs.Masked.{input_masked, reply_masked}
use Rattle.law_isolation.proofs.a_reply_tells_the_groups_that_it_names_alone.Goals as goal

pub returns-clause-words : goal.returns-clause-words
returns-clause-words c = reply_masked

pub returns-clause-inputs : goal.returns-clause-inputs
returns-clause-inputs c = input_masked
