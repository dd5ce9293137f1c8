use Rattle.law_renaming.proofs.Naming.{forced_named}
use Rattle.law_renaming.proofs.stores_of_others_name_no_pair.Goals as goal

pub returns : goal.returns
returns c = forced_named
