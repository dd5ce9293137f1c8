use Rattle.std.proofs.Common.{rules, arith, ◌≡◌}
use Rattle.std.specs.Prelude.{map}
use Rattle.nova_nodes.specs.Spaces.{shown_room}
use Rattle.nova_nodes.proofs.Indexed.{indexed_same}
use Rattle.nova_nodes.proofs.Rooms.{shown_more, total_same}
use Rattle.nova_nodes.proofs.nodes.Nodes.add_pd.Goals as goal

pub invariant_of-self : goal.invariant_of-self
invariant_of-self g c =
    let indexed = indexed_same c.self.inside.spaces c.add_pd.new.self c.self.inside.list.list c.add_pd.ensures.entries c.self.invariant.1.0 in
    let total = total_same c.self.inside.spaces c.add_pd.new.self c.add_pd.ensures.rooms in
    let room = c.self.invariant.1.1.0 in
    (c.self.invariant.0, (indexed, (omega arith, c.self.invariant.1.1.1)))

pub returns-clause-rooms : goal.returns-clause-rooms
returns-clause-rooms g c = λ other.
    let seen : c.args.self.now.rooms ≡ map shown_room c.self.inside.spaces = search rules in
    let same = c.add_pd.ensures.rooms other in
    shown_more c.args.self.now.rooms c.self.inside.spaces c.add_pd.new.self other seen (omega arith)
