use Rattle.std.proofs.Common.{rules, arith, ◌≡◌, ◌∙◌, ◌∷◌, List, sym, ap, length, Some, None}
use Rattle.std.specs.List.{find}
use Rattle.nova_model.specs.Delegations.{is_from, from_id}
use Rattle.nova_model.specs.declared.delegation.Derivation.{Derivation}
use Rattle.nova_nodes.proofs.Rising.{from_0, found_first, least_found}
use Rattle.nova_compare.proofs.Readings.{nothing_left}
use Rattle.nova_compare.proofs.derivations.same_delegations.Goals as goal

pub loop-derivation-init : goal.loop-derivation-init
loop-derivation-init c = λ same. sym (from_0 c.args.a.now.state.delegations.list) ∙ same ∙ from_0 c.args.b.now.state.delegations.list

pub loop-derivation-smaller : goal.loop-derivation-smaller
loop-derivation-smaller c =
    let list = c.args.a.now.state.delegations.list in
    let least : from_id list c.loop-derivation.id ≡ Some c.in-Some.derivation = search rules in
    let is : find (is_from c.loop-derivation.id) list ≡ Some c.in-Some.derivation = sym (least_found c.loop-derivation.id list c.in-Some.ensures.forest.rising) ∙ least in
    omega (arith, ap (length) (found_first c.loop-derivation.id list c.in-Some.derivation c.in-Some.ensures.forest.rising is))

pub loop-derivation-preserved : goal.loop-derivation-preserved
loop-derivation-preserved c =
    let id = c.loop-derivation.id in
    let d = c.in-Some.derivation in
    let list = c.args.a.now.state.delegations.list in
    let other = c.args.b.now.state.delegations.list in
    let rising = c.in-Some.ensures.forest.rising in
    let rises = c.has_derivation.ensures.forest.rising in
    let least : from_id list id ≡ Some d = search rules in
    let leasts : from_id other id ≡ Some d = search rules in
    let is : find (is_from id) list ≡ Some d = sym (least_found id list rising) ∙ least in
    let iss : find (is_from id) other ≡ Some d = sym (least_found id other rises) ∙ leasts in
    λ same. c.loop-derivation.invariant
    (found_first id list d rising is ∙ ap (λ (l : List Derivation). d ∷ l) same ∙ sym (found_first id other d rises iss))

pub returns : goal.returns
returns c =
    let list = c.args.a.now.state.delegations.list in
    let least : from_id list c.loop-derivation.id ≡ None = search rules in
    nothing_left c.has_none_from.result list c.args.b.now.state.delegations.list c.loop-derivation.id c.derivation_from.ensures.forest.rising c.has_none_from.ensures.forest.rising least
    c.has_none_from.ensures.none c.loop-derivation.invariant
