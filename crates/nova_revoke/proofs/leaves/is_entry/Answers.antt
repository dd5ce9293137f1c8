use Rattle.std.proofs.Common.{rules, ◌∙◌}
use Rattle.nova_revoke.proofs.Entries.{entry_by}
use Rattle.nova_revoke.proofs.leaves.is_entry.Goals as goal

pub returns-else-in_scope_of : goal.returns-else-in_scope_of
returns-else-in_scope_of g c =
    (search rules) ∙ entry_by c.args.revoke.now c.args.nodes.now.delegations.list c.args.d c.in_scope_of.result c.newest_in.result c.requires.pd c.in_scope_of.ensures c.newest_in.ensures
