use Rattle.nova_revoke.proofs.Ways.{leaf_ended, leaf_found}
use Rattle.nova_revoke.proofs.leaves.next_leaf.Goals as goal

pub returns-clause-leaf : goal.returns-clause-leaf
returns-clause-leaf g c =
    leaf_found c.args.revoke.now c.args.nodes.now.delegations c.find_leaf.ensures.sound.forest c.find_leaf.result c.find_leaf.ensures.found

pub returns-clause-ended : goal.returns-clause-ended
returns-clause-ended g c =
    leaf_ended c.args.revoke.now c.args.nodes.now.delegations c.find_leaf.ensures.sound.forest c.find_leaf.result c.find_leaf.ensures.found
