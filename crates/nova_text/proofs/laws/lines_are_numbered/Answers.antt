use Rattle.nova_text.proofs.TextLemmas.{numbers-lines, texts-lines}
use Rattle.nova_text.proofs.laws.lines_are_numbered.Goals as goal

pub returns-clause-numbers : goal.returns-clause-numbers
returns-clause-numbers c = numbers-lines

pub returns-clause-texts : goal.returns-clause-texts
returns-clause-texts c = texts-lines
