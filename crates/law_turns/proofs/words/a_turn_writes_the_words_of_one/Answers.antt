use Rattle.law_turns.proofs.Raising.{raised_keep}
use Rattle.law_turns.proofs.MessageWriters.{others_keep, one_writes, told_own, sized}
use Rattle.law_turns.proofs.words.a_turn_writes_the_words_of_one.Goals as goal

pub returns-clause-others : goal.returns-clause-others
returns-clause-others c = others_keep

pub returns-clause-writes : goal.returns-clause-writes
returns-clause-writes c = one_writes

pub returns-clause-raised : goal.returns-clause-raised
returns-clause-raised c = raised_keep

pub returns-clause-told : goal.returns-clause-told
returns-clause-told c = told_own

pub returns-clause-size : goal.returns-clause-size
returns-clause-size c = sized
