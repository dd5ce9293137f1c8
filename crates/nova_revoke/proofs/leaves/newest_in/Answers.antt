use Rattle.std.proofs.Common.{rules, ◌≡◌, suc, ap, subst, arith, false, true}
use Rattle.std.specs.Prelude.{Some, None}
use Rattle.nova_model.specs.Delegations.{with_id}
use Rattle.nova_model.specs.Revokes.{in_scope}
use Rattle.law_forest.proofs.Members.{contains_from_in}
use Rattle.nova_revoke.proofs.Newest.{IsLookedThrough, looked_first, looked_none, child_there, child_is, at_hit, at_miss, older_of, ids_left}
use Rattle.nova_revoke.proofs.leaves.newest_in.Goals as goal

pub loop-at-init : goal.loop-at-init
loop-at-init g c = looked_first c.args.revoke.now c.args.nodes.now.delegations.list c.args.id c.newest_child-at.result c.newest_child-at.ensures.found

pub unreachable-requires : goal.unreachable-requires
unreachable-requires g c =
    let r = c.args.revoke.now in
    let f = c.args.nodes.now.delegations in
    let looked = subst (IsLookedThrough r f.list c.args.id) c.in-Some.is c.loop-at.invariant in
    let none : None ≡ with_id f.list c.in-Some.child = search rules in
    child_there r f c.args.id c.in-Some.child c.requires.sound.forest looked none

pub in_scope_of-requires-clause-there : goal.in_scope_of-requires-clause-there
in_scope_of-requires-clause-there g c =
    let r = c.args.revoke.now in
    let f = c.args.nodes.now.delegations in
    let looked = subst (IsLookedThrough r f.list c.args.id) c.in-Some.is c.loop-at.invariant in
    let found : Some c.in-Some-get.d ≡ with_id f.list c.in-Some.child = search rules in
    contains_from_in f.list c.in-Some-get.d (child_is r f c.args.id c.in-Some.child c.in-Some-get.d c.requires.sound.forest looked found).there

pub returns-then-in_scope_of : goal.returns-then-in_scope_of
returns-then-in_scope_of g c =
    let r = c.args.revoke.now in
    let f = c.args.nodes.now.delegations in
    let looked = subst (IsLookedThrough r f.list c.args.id) c.in-Some.is c.loop-at.invariant in
    let found : Some c.in-Some-get.d ≡ with_id f.list c.in-Some.child = search rules in
    let here = child_is r f c.args.id c.in-Some.child c.in-Some-get.d c.requires.sound.forest looked found in
    let taken : in_scope r f.list c.in-Some-get.d ≡ true = search rules in
    at_hit r f c.args.id c.in-Some.child c.in-Some-get.d c.requires.sound.forest here taken

pub loop-at-smaller : goal.loop-at-smaller
loop-at-smaller g c =
    let r = c.args.revoke.now in
    let f = c.args.nodes.now.delegations in
    let looked = subst (IsLookedThrough r f.list c.args.id) c.in-Some.is c.loop-at.invariant in
    let found : Some c.in-Some-get.d ≡ with_id f.list c.in-Some.child = search rules in
    let here = child_is r f c.args.id c.in-Some.child c.in-Some-get.d c.requires.sound.forest looked found in
    let out : in_scope r f.list c.in-Some-get.d ≡ false = search rules in
    let next = at_miss r f c.args.id c.in-Some.child c.in-Some-get.d c.older-at.result c.requires.sound.forest here out
    (older_of f.list c.older-at.result (with_id f.list c.in-Some.child) c.in-Some-get.d found c.older-at.ensures.found) in
    let less = next.fewer in
    let was : ids_left c.loop-at.at ≡ suc c.in-Some.child = ap ids_left c.in-Some.is in
    omega arith

pub loop-at-preserved : goal.loop-at-preserved
loop-at-preserved g c =
    let r = c.args.revoke.now in
    let f = c.args.nodes.now.delegations in
    let looked = subst (IsLookedThrough r f.list c.args.id) c.in-Some.is c.loop-at.invariant in
    let found : Some c.in-Some-get.d ≡ with_id f.list c.in-Some.child = search rules in
    let here = child_is r f c.args.id c.in-Some.child c.in-Some-get.d c.requires.sound.forest looked found in
    let out : in_scope r f.list c.in-Some-get.d ≡ false = search rules in
    (at_miss r f c.args.id c.in-Some.child c.in-Some-get.d c.older-at.result c.requires.sound.forest here out
    (older_of f.list c.older-at.result (with_id f.list c.in-Some.child) c.in-Some-get.d found c.older-at.ensures.found)).looked

pub returns : goal.returns
returns g c = looked_none c.args.revoke.now c.args.nodes.now.delegations.list c.args.id (subst (IsLookedThrough c.args.revoke.now c.args.nodes.now.delegations.list c.args.id) c.in_default.is c.loop-at.invariant)
