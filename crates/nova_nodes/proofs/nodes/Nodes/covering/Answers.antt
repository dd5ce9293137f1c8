use Rattle.std.proofs.Common.{rules, refl, ◌≡◌, ◌∙◌, ap, sym, List, ℕ, true, false}
use Rattle.std.specs.Prelude.{Option, Some, None, nat_le, option_and_then, if◌then◌else◌}
use Rattle.std.specs.List.{find}
use Rattle.nova_range.specs.declared.range.Range.{Range}
use Rattle.nova_range.specs.Indices.{IsSorted, range_from}
use Rattle.nova_model.specs.Delegations.{covers, with_id}
use Rattle.nova_model.specs.declared.delegation.Derivation.{Derivation}
use Rattle.nova_nodes.specs.Spaces.{entries_at}
use Rattle.nova_nodes.proofs.Indexed.{covering_is}
use Rattle.nova_nodes.proofs.nodes.Nodes.covering.Goals as goal

-- what the first entry from the place on gives
abbrev given : List Derivation → ℕ → Option (Range × ℕ) → Option Derivation
given list place first = option_and_then (λ (p : Range × ℕ). if nat_le p.0.base place then with_id list p.1 else None) first

pub returns-in_err-range-clause-found : goal.returns-in_err-range-clause-found
returns-in_err-range-clause-found g c =
    let list = c.self.inside.list.list in
    let none : range_from c.args.place (entries_at c.self.inside.spaces c.args.pd c.args.kind) ≡ None = search rules in
    let sorted : IsSorted (entries_at c.self.inside.spaces c.args.pd c.args.kind) = search rules in
    let is = covering_is c.self.inside.spaces (record { list = list; next = c.self.inside.next }) c.args.pd c.args.kind c.args.place c.self.invariant.0.forest c.self.invariant.1.0 sorted in
    let gives : c.from_residual.result ≡ None = search rules in
    let seen : c.args.self.now.delegations.list ≡ list = search rules in
    gives ∙ ap (given list c.args.place) (sym none) ∙ is ∙ ap (find (covers c.args.kind c.args.pd c.args.place)) (sym seen)

pub returns-then-range-place-clause-found : goal.returns-then-range-place-clause-found
returns-then-range-place-clause-found g c =
    let list = c.self.inside.list.list in
    let some : range_from c.args.place (entries_at c.self.inside.spaces c.args.pd c.args.kind) ≡ Some (c.in_ok-range.range, c.in_ok-range.id) = search rules in
    let sorted : IsSorted (entries_at c.self.inside.spaces c.args.pd c.args.kind) = search rules in
    let is = covering_is c.self.inside.spaces (record { list = list; next = c.self.inside.next }) c.args.pd c.args.kind c.args.place c.self.invariant.0.forest c.self.invariant.1.0 sorted in
    let after : nat_le c.in_ok-range.range.base c.args.place ≡ false = search rules in
    let gives : None ≡ given list c.args.place (Some (c.in_ok-range.range, c.in_ok-range.id)) = rw after refl in
    let seen : c.args.self.now.delegations.list ≡ list = search rules in
    gives ∙ ap (given list c.args.place) (sym some) ∙ is ∙ ap (find (covers c.args.kind c.args.pd c.args.place)) (sym seen)

pub returns-clause-found : goal.returns-clause-found
returns-clause-found g c =
    let list = c.self.inside.list.list in
    let some : range_from c.args.place (entries_at c.self.inside.spaces c.args.pd c.args.kind) ≡ Some (c.in_ok-range.range, c.in_ok-range.id) = search rules in
    let sorted : IsSorted (entries_at c.self.inside.spaces c.args.pd c.args.kind) = search rules in
    let is = covering_is c.self.inside.spaces (record { list = list; next = c.self.inside.next }) c.args.pd c.args.kind c.args.place c.self.invariant.0.forest c.self.invariant.1.0 sorted in
    let upto : nat_le c.in_ok-range.range.base c.args.place ≡ true = search rules in
    let found : c.get.result ≡ with_id list c.in_ok-range.id = search rules in
    let gives : c.get.result ≡ given list c.args.place (Some (c.in_ok-range.range, c.in_ok-range.id)) = rw upto found in
    let seen : c.args.self.now.delegations.list ≡ list = search rules in
    gives ∙ ap (given list c.args.place) (sym some) ∙ is ∙ ap (find (covers c.args.kind c.args.pd c.args.place)) (sym seen)
