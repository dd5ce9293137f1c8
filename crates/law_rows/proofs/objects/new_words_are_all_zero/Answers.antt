use Rattle.law_rows.proofs.NewWords.{new_words}
use Rattle.law_rows.proofs.objects.new_words_are_all_zero.Goals as goal

pub returns-clause-local : goal.returns-clause-local
returns-clause-local c = λ k domain target pd cpu sp event n same within. new_words k.messages n _ same within

pub returns-clause-global : goal.returns-clause-global
returns-clause-global c = λ k domain target pd cpu sp event n same within. new_words k.messages n _ same within
