use Rattle.law_sameness.proofs.Counted.{boot_fresh, counts_stay, counts_turned}
use Rattle.law_sameness.proofs.laws.turns_count_by_what_is_read.Goals as goal

pub returns-clause-begins : goal.returns-clause-begins
returns-clause-begins c = boot_fresh

pub returns-clause-turns : goal.returns-clause-turns
returns-clause-turns c = counts_turned

pub returns-clause-processors : goal.returns-clause-processors
returns-clause-processors c = counts_stay
