use Rattle.law_renaming.proofs.Sorts.{forced_sorted}
use Rattle.law_renaming.proofs.forced_pairs_take_ram_to_ram.Goals as goal

pub returns : goal.returns
returns c = forced_sorted
