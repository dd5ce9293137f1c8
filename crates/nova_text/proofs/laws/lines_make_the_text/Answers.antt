use Rattle.nova_text.proofs.TextLemmas.{written-line_texts, line_texts-written}
use Rattle.nova_text.proofs.laws.lines_make_the_text.Goals as goal

pub returns-clause-written : goal.returns-clause-written
returns-clause-written c = written-line_texts

pub returns-clause-read_back : goal.returns-clause-read_back
returns-clause-read_back c = line_texts-written
