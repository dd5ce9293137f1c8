use Rattle.std.proofs.Common.{rules, arith, ◌≡◌, ◌∙◌, sym, ap, length, Some, None, true, false}
use Rattle.std.specs.List.{find}
use Rattle.nova_range.specs.declared.range.Kind.TheVariants.{Mem}
use Rattle.nova_model.specs.Delegations.{covers, from_id, is_from}
use Rattle.nova_nodes.proofs.Rising.{from_0, found_first, least_found}
use Rattle.nova_touching.proofs.Covering.{found_here, found_later, found_nowhere}
use Rattle.nova_touching.proofs.leading.covering.Goals as goal

pub loop-derivation-init : goal.loop-derivation-init
loop-derivation-init c = ap (find (covers Mem c.args.pd c.args.page)) (from_0 c.args.kernel.now.state.delegations.list)

pub loop-derivation-smaller : goal.loop-derivation-smaller
loop-derivation-smaller c =
    let list = c.args.kernel.now.state.delegations.list in
    let least : from_id list c.loop-derivation.id ≡ Some c.in-Some.derivation = search rules in
    let is : find (is_from c.loop-derivation.id) list ≡ Some c.in-Some.derivation = sym (least_found c.loop-derivation.id list c.in-Some.ensures.forest.rising) ∙ least in
    omega (arith, ap (length) (found_first c.loop-derivation.id list c.in-Some.derivation c.in-Some.ensures.forest.rising is))

pub loop-derivation-preserved : goal.loop-derivation-preserved
loop-derivation-preserved c =
    let list = c.args.kernel.now.state.delegations.list in
    let least : from_id list c.loop-derivation.id ≡ Some c.in-Some.derivation = search rules in
    let fails : covers Mem c.args.pd c.args.page c.in-Some.derivation ≡ false = search rules in
    sym (found_later (covers Mem c.args.pd c.args.page) list c.loop-derivation.id c.in-Some.derivation c.in-Some.ensures.forest.rising least fails) ∙ c.loop-derivation.invariant

pub returns-then-covers : goal.returns-then-covers
returns-then-covers c =
    let list = c.args.kernel.now.state.delegations.list in
    let least : from_id list c.loop-derivation.id ≡ Some c.in-Some.derivation = search rules in
    let passes : covers Mem c.args.pd c.args.page c.in-Some.derivation ≡ true = search rules in
    sym (found_here (covers Mem c.args.pd c.args.page) list c.loop-derivation.id c.in-Some.derivation c.in-Some.ensures.forest.rising least passes) ∙ c.loop-derivation.invariant

pub returns : goal.returns
returns c =
    let list = c.args.kernel.now.state.delegations.list in
    let none : from_id list c.loop-derivation.id ≡ None = search rules in
    sym (found_nowhere (covers Mem c.args.pd c.args.page) list c.loop-derivation.id c.derivation_from.ensures.forest.rising none) ∙ c.loop-derivation.invariant
