use Rattle.std.proofs.Common.{rules}
use Rattle.nova_asking.proofs.Told.{ways_if}
use Rattle.nova_asking.proofs.path.order_to.Goals as goal

pub returns-clause-way : goal.returns-clause-way
returns-clause-way c = ways_if c.args.found.now c.args.place c.in_ok-path.path.items c.order_of.result (search rules) c.in_ok-path.ensures
