use Rattle.std.proofs.Common.{rules, ap, ◌≡◌, ◌∙◌, ◌++◌, ◌<◌, ◌-◌, suc, arith, string_bytes, Some, None}
use Rattle.nova_model.specs.Delegations.{parent_of, with_id}
use Rattle.nova_judging.specs.Trails.{link_line}
use Rattle.nova_judging.proofs.Trailing.{all_links, lines, no_link, one_link}
use Rattle.nova_judging.proofs.trails.write_trail.Goals as goal

pub loop-link-init : goal.loop-link-init
loop-link-init c =
    let all : suc c.args.cap - 0 ≡ suc c.args.cap = omega arith in
    let first : c.with_id-next.result ≡ with_id c.args.list.now c.args.cap = search rules in
    ap (λ n. string_bytes c.args.out.now ++ lines n c.args.list.now c.with_id-next.result) all
    ∙ ap (λ d. string_bytes c.args.out.now ++ lines (suc c.args.cap) c.args.list.now d) first

pub loop-link-preserved : goal.loop-link-preserved
loop-link-preserved c =
    let is : c.loop-link.next ≡ Some c.in-Some.derivation = search rules in
    let wrote : string_bytes c.write_link.new.out ≡ string_bytes c.loop-link.out ++ link_line c.in-Some.derivation = search rules in
    let parent : c.parent_of-next.result ≡ parent_of c.args.list.now c.in-Some.derivation = search rules in
    let more : c.loop-link._link < suc c.args.cap = omega arith in
    one_link (suc c.args.cap) c.loop-link._link c.args.list.now c.loop-link.next c.parent_of-next.result c.in-Some.derivation _ _ _ more is parent wrote c.loop-link.invariant

pub returns-in_default : goal.returns-in_default
returns-in_default c =
    let none : c.loop-link.next ≡ None = search rules in
    no_link _ c.args.list.now c.loop-link.next _ _ none c.loop-link.invariant

pub returns : goal.returns
returns c =
    let end : suc c.args.cap - c.loop-link._link ≡ 0 = omega arith in
    all_links _ c.args.list.now c.loop-link.next _ _ end c.loop-link.invariant
