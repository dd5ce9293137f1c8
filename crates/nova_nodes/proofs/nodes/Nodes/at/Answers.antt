use Rattle.std.proofs.Common.{rules, ◌≡◌, ◌∙◌, ap, sym}
use Rattle.std.specs.Prelude.{Some, None, option_and_then}
use Rattle.nova_range.specs.Indices.{key_at}
use Rattle.nova_model.specs.Delegations.{with_id}
use Rattle.nova_nodes.specs.Spaces.{entries_at}
use Rattle.nova_nodes.proofs.Indexed.{at_is}
use Rattle.nova_nodes.proofs.nodes.Nodes.at.Goals as goal

pub returns-in_err-id-clause-found : goal.returns-in_err-id-clause-found
returns-in_err-id-clause-found g c =
    let list = c.self.inside.list.list in
    let none : key_at c.args.place (entries_at c.self.inside.spaces c.args.pd c.args.kind) ≡ None = search rules in
    let is = at_is c.self.inside.spaces (record { list = list; next = c.self.inside.next }) c.args.pd c.args.kind c.args.place c.self.invariant.0.forest c.self.invariant.1.0 in
    let gives : c.from_residual.result ≡ None = search rules in
    gives ∙ ap (option_and_then (with_id list)) (sym none) ∙ is

pub returns-clause-found : goal.returns-clause-found
returns-clause-found g c =
    let list = c.self.inside.list.list in
    let some : key_at c.args.place (entries_at c.self.inside.spaces c.args.pd c.args.kind) ≡ Some c.in_ok-id.id = search rules in
    let is = at_is c.self.inside.spaces (record { list = list; next = c.self.inside.next }) c.args.pd c.args.kind c.args.place c.self.invariant.0.forest c.self.invariant.1.0 in
    let gives : c.get.result ≡ with_id list c.in_ok-id.id = search rules in
    gives ∙ ap (option_and_then (with_id list)) (sym some) ∙ is
