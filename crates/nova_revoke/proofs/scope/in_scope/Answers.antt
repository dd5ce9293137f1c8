use Rattle.std.proofs.Common.{rules}
use Rattle.nova_revoke.proofs.Walks.{found_there}
use Rattle.nova_revoke.proofs.scope.in_scope.Goals as goal

pub in_scope_of-requires-clause-there : goal.in_scope_of-requires-clause-there
in_scope_of-requires-clause-there g c = found_there c.args.nodes.now.delegations.list c.args.id c.in-Some.d (search rules)
