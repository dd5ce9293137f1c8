use Rattle.std.proofs.Common.{rules, ◌≡◌, ◌∙◌, ap, sym, List, ℕ}
use Rattle.std.specs.Prelude.{Some, None, option_and_then}
use Rattle.nova_range.specs.declared.range.Range.{Range}
use Rattle.nova_range.specs.Indices.{IsSorted, range_from}
use Rattle.nova_model.specs.Delegations.{with_id, first_from}
use Rattle.nova_model.specs.declared.delegation.Derivation.{Derivation}
use Rattle.nova_nodes.specs.Spaces.{entries_at}
use Rattle.nova_nodes.proofs.Indexed.{first_is}
use Rattle.nova_nodes.proofs.nodes.Nodes.first_from.Goals as goal

pub returns-in_err-id-clause-found : goal.returns-in_err-id-clause-found
returns-in_err-id-clause-found g c =
    let list = c.self.inside.list.list in
    let none : range_from c.args.place (entries_at c.self.inside.spaces c.args.pd c.args.kind) ≡ None = search rules in
    let sorted : IsSorted (entries_at c.self.inside.spaces c.args.pd c.args.kind) = search rules in
    let is = first_is c.self.inside.spaces (record { list = list; next = c.self.inside.next }) c.args.pd c.args.kind c.args.place c.self.invariant.0.forest c.self.invariant.1.0 sorted in
    let gives : c.from_residual.result ≡ None = search rules in
    let seen : c.args.self.now.delegations.list ≡ list = search rules in
    gives ∙ ap (option_and_then (λ (p : Range × ℕ). with_id list p.1)) (sym none) ∙ is ∙ ap (λ (ds : List Derivation). first_from ds c.args.kind c.args.pd c.args.place) (sym seen)

pub returns-clause-found : goal.returns-clause-found
returns-clause-found g c =
    let list = c.self.inside.list.list in
    let some : range_from c.args.place (entries_at c.self.inside.spaces c.args.pd c.args.kind) ≡ Some (c.in_ok-id.field-0-0, c.in_ok-id.id) = search rules in
    let sorted : IsSorted (entries_at c.self.inside.spaces c.args.pd c.args.kind) = search rules in
    let is = first_is c.self.inside.spaces (record { list = list; next = c.self.inside.next }) c.args.pd c.args.kind c.args.place c.self.invariant.0.forest c.self.invariant.1.0 sorted in
    let seen : c.args.self.now.delegations.list ≡ list = search rules in
    let gives : c.get.result ≡ with_id list c.in_ok-id.id = search rules in
    gives ∙ ap (option_and_then (λ (p : Range × ℕ). with_id list p.1)) (sym some) ∙ is ∙ ap (λ (ds : List Derivation). first_from ds c.args.kind c.args.pd c.args.place) (sym seen)
