use Rattle.std.proofs.Common.{rules, ap, ◌≡◌, ◌<◌, ◌-◌, suc, arith, true, false, Some, None}
use Rattle.nova_model.specs.Delegations.{parent_of}
use Rattle.nova_model.specs.declared.delegation.Derivation.{Derivation}
use Rattle.nova_flowing.specs.Tests.{is_in}
use Rattle.nova_flowing.proofs.Lineages.{any_in, found_link, last_link, next_link, no_link}
use Rattle.nova_flowing.proofs.capabilities.comes_of.Goals as goal

pub loop-link-init : goal.loop-link-init
loop-link-init c =
    let all : suc c.args.d.id - 0 ≡ suc c.args.d.id = omega arith in
    ap (λ n. any_in (λ (a : Derivation). is_in c.args.set.now a.pd) n c.args.list.now (Some c.args.d)) all

pub loop-link-preserved : goal.loop-link-preserved
loop-link-preserved c =
    let is : c.loop-link.next ≡ Some c.in-Some.link = search rules in
    let parent : c.parent_of-next.result ≡ parent_of c.args.list.now c.in-Some.link = search rules in
    let off : is_in c.args.set.now c.in-Some.link.pd ≡ false = search rules in
    let more : c.loop-link._link < suc c.args.d.id = omega arith in
    next_link (λ (a : Derivation). is_in c.args.set.now a.pd) (suc c.args.d.id) c.loop-link._link c.args.list.now c.loop-link.next c.parent_of-next.result c.in-Some.link _ more is parent off c.loop-link.invariant

pub returns-then-is_in : goal.returns-then-is_in
returns-then-is_in c =
    let is : c.loop-link.next ≡ Some c.in-Some.link = search rules in
    let passes : is_in c.args.set.now c.in-Some.link.pd ≡ true = search rules in
    let more : c.loop-link._link < suc c.args.d.id = omega arith in
    found_link (λ (a : Derivation). is_in c.args.set.now a.pd) (suc c.args.d.id) c.loop-link._link c.args.list.now c.loop-link.next c.in-Some.link _ more is passes c.loop-link.invariant

pub returns-in_default : goal.returns-in_default
returns-in_default c =
    let none : c.loop-link.next ≡ None = search rules in
    no_link (λ (a : Derivation). is_in c.args.set.now a.pd) _ c.args.list.now c.loop-link.next _ none c.loop-link.invariant

pub returns : goal.returns
returns c =
    let end : suc c.args.d.id - c.loop-link._link ≡ 0 = omega arith in
    last_link (λ (a : Derivation). is_in c.args.set.now a.pd) _ c.args.list.now c.loop-link.next _ end c.loop-link.invariant
