use Rattle.law_renaming.proofs.Twins.{views_agree}
use Rattle.law_renaming.proofs.views_agree_by_the_cells_of_the_first.Goals as goal

pub returns : goal.returns
returns c = views_agree
