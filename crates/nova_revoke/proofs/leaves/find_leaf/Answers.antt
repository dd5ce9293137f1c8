use Rattle.std.proofs.Common.{rules, ◌≡◌}
use Rattle.std.specs.Prelude.{Some}
use Rattle.nova_model.specs.Revokes.{newest_in}
use Rattle.nova_revoke.proofs.Ways.{newest_there}
use Rattle.nova_revoke.proofs.leaves.find_leaf.Goals as goal

pub leaf_below-requires : goal.leaf_below-requires
leaf_below-requires g c =
    let list = c.args.nodes.now.delegations.list in
    let newest : newest_in c.args.revoke.now list c.in_ok-d.d.id ≡ Some c.in-Some.c = search rules in
    newest_there c.args.revoke.now list c.in_ok-d.d.id c.in-Some.c newest
