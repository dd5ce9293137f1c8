use Rattle.std.proofs.Common.{rules, arith, ◌≡◌, ◌∙◌, sym, ◌++◌, string_bytes, ap, length, flat_map, Some, None}
use Rattle.std.specs.List.{find}
use Rattle.nova_report.specs.Report.{derivation_line}
use Rattle.nova_model.specs.Delegations.{is_from, from_id}
use Rattle.nova_nodes.proofs.Rising.{from_0, least_found, found_first}
use Rattle.nova_report.proofs.Written.{one_more, no_more}
use Rattle.nova_report.proofs.derivations.write_derivations.Goals as goal

pub loop-derivation-init : goal.loop-derivation-init
loop-derivation-init c = ap (λ xs. string_bytes c.args.out.now ++ flat_map derivation_line xs) (from_0 c.args.kernel.now.state.delegations.list)

pub loop-derivation-smaller : goal.loop-derivation-smaller
loop-derivation-smaller c =
    let list = c.args.kernel.now.state.delegations.list in
    let least : from_id list c.loop-derivation.id ≡ Some c.in-Some.derivation = search rules in
    let is : find (is_from c.loop-derivation.id) list ≡ Some c.in-Some.derivation = sym (least_found c.loop-derivation.id list c.in-Some.ensures.forest.rising) ∙ least in
    omega (arith, ap (length) (found_first c.loop-derivation.id list c.in-Some.derivation c.in-Some.ensures.forest.rising is))

pub loop-derivation-preserved : goal.loop-derivation-preserved
loop-derivation-preserved c =
    let list = c.args.kernel.now.state.delegations.list in
    let least : from_id list c.loop-derivation.id ≡ Some c.in-Some.derivation = search rules in
    let is : find (is_from c.loop-derivation.id) list ≡ Some c.in-Some.derivation = sym (least_found c.loop-derivation.id list c.in-Some.ensures.forest.rising) ∙ least in
    let wrote : string_bytes c.write_derivation.new.out ≡ string_bytes c.loop-derivation.out ++ derivation_line c.in-Some.derivation = search rules in
    one_more derivation_line c.loop-derivation.id list (string_bytes c.loop-derivation.out) _ c.loop-derivation.invariant
    c.in-Some.derivation (string_bytes c.write_derivation.new.out) c.in-Some.ensures.forest.rising is wrote

pub returns : goal.returns
returns c =
    let list = c.args.kernel.now.state.delegations.list in
    let least : from_id list c.loop-derivation.id ≡ None = search rules in
    let is : find (is_from c.loop-derivation.id) list ≡ None = sym (least_found c.loop-derivation.id list c.derivation_from.ensures.forest.rising) ∙ least in
    no_more derivation_line c.loop-derivation.id list (string_bytes c.loop-derivation.out) _ c.loop-derivation.invariant is
