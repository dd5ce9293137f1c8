use Rattle.std.proofs.Common.{rules, arith, ◌≡◌, ◌∙◌, sym, ap, List, length, filter, ◌++◌, ◌∷◌, [], ◌+◌, Some, None}
use Rattle.std.specs.List.{find}
use Rattle.std.proofs.lemmas.List.{append_assoc, append-nil}
use Rattle.nova_model.specs.declared.delegation.Derivation.{Derivation}
use Rattle.nova_model.specs.Delegations.{is_from, from_id}
use Rattle.nova_nodes.proofs.Rising.{from_0, least_found, found_first, found_none}
use Rattle.nova_sides.proofs.derivations.derivations_of.Goals as goal

pub loop-derivation-init : goal.loop-derivation-init
loop-derivation-init c =
    let list = c.args.kernel.now.state.delegations.list in
    let none : c.new-list.result.items ≡ [] = search rules in
    ap (λ (xs : List Derivation). xs ++ filter (is_from 0) list) none ∙ from_0 list

pub loop-derivation-smaller : goal.loop-derivation-smaller
loop-derivation-smaller c =
    let list = c.args.kernel.now.state.delegations.list in
    let least : from_id list c.loop-derivation.id ≡ Some c.in-Some.derivation = search rules in
    let is : find (is_from c.loop-derivation.id) list ≡ Some c.in-Some.derivation = sym (least_found c.loop-derivation.id list c.in-Some.ensures.forest.rising) ∙ least in
    omega (arith, ap (length) (found_first c.loop-derivation.id list c.in-Some.derivation c.in-Some.ensures.forest.rising is))

pub loop-derivation-preserved : goal.loop-derivation-preserved
loop-derivation-preserved c =
    let list = c.args.kernel.now.state.delegations.list in
    let least : from_id list c.loop-derivation.id ≡ Some c.in-Some.derivation = search rules in
    let is : find (is_from c.loop-derivation.id) list ≡ Some c.in-Some.derivation = sym (least_found c.loop-derivation.id list c.in-Some.ensures.forest.rising) ∙ least in
    let pushed : c.push.new.self.items ≡ c.loop-derivation.list.items ++ c.in-Some.derivation ∷ [] = search rules in
    ap (λ (xs : List Derivation). xs ++ filter (is_from (c.in-Some.derivation.id + 1)) list) pushed
    ∙ append_assoc c.loop-derivation.list.items (c.in-Some.derivation ∷ []) (filter (is_from (c.in-Some.derivation.id + 1)) list)
    ∙ sym (ap (λ xs. c.loop-derivation.list.items ++ xs) (found_first c.loop-derivation.id list c.in-Some.derivation c.in-Some.ensures.forest.rising is))
    ∙ c.loop-derivation.invariant

pub returns : goal.returns
returns c =
    let list = c.args.kernel.now.state.delegations.list in
    let least : from_id list c.loop-derivation.id ≡ None = search rules in
    let is : find (is_from c.loop-derivation.id) list ≡ None = sym (least_found c.loop-derivation.id list c.derivation_from.ensures.forest.rising) ∙ least in
    sym (append-nil c.loop-derivation.list.items) ∙ sym (ap (λ xs. c.loop-derivation.list.items ++ xs) (found_none c.loop-derivation.id list is)) ∙ c.loop-derivation.invariant
