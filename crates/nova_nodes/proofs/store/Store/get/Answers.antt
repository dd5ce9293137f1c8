use Rattle.std.proofs.Common.{rules, ◌≡◌, sym, subst}
use Rattle.nova_nodes.specs.Stores.{AreRising, nodes_at}
use Rattle.nova_nodes.proofs.Stores.{rising_places}
use Rattle.nova_nodes.proofs.store.Store.get.Goals as goal

pub returns-in_err-entry-clause-rising : goal.returns-in_err-entry-clause-rising
returns-in_err-entry-clause-rising c =
    let seen : c.args.self.now.nodes ≡ nodes_at c.self.inside.slab c.self.inside.places.items = search rules in
    subst AreRising (sym seen) (rising_places c.self.inside.slab c.self.inside.places.items c.self.invariant.0)

pub returns-clause-rising : goal.returns-clause-rising
returns-clause-rising c =
    let seen : c.args.self.now.nodes ≡ nodes_at c.self.inside.slab c.self.inside.places.items = search rules in
    subst AreRising (sym seen) (rising_places c.self.inside.slab c.self.inside.places.items c.self.invariant.0)
