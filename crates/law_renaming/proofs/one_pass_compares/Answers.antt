use Rattle.law_renaming.proofs.Orders.{walk_pairs}
use Rattle.law_renaming.proofs.Walking.{walk_holds}
use Rattle.law_renaming.proofs.one_pass_compares.Goals as goal

pub returns-clause-holds : goal.returns-clause-holds
returns-clause-holds c = walk_holds

pub returns-clause-pairs : goal.returns-clause-pairs
returns-clause-pairs c = walk_pairs
