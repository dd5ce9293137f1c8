use Rattle.law_forest.proofs.Leaves.{leaf_facts, leaf_or_none, part_takes_one}
use Rattle.law_forest.proofs.revokes.a_part_takes_a_leaf.Goals as goal

pub returns : goal.returns
returns c = record { leaf = leaf_facts; none = leaf_or_none; one = part_takes_one }
