use Rattle.std.proofs.Common.{rules, ◌≡◌, ◌||◌, false}
use Rattle.std.specs.Prelude.{Some, None}
use Rattle.nova_model.specs.Delegations.{parent_of}
use Rattle.nova_model.specs.Revokes.{is_made_of, is_own}
use Rattle.nova_revoke.proofs.Walks.{at_start, at_root, upward, falls}
use Rattle.nova_revoke.proofs.scope.in_scope_of.Goals as goal

pub loop-at-init : goal.loop-at-init
loop-at-init g c = at_start c.args.revoke.now c.args.nodes.now.delegations.list c.args.d c.requires.there c.requires.placed

pub returns-in-None : goal.returns-in-None
returns-in-None g c =
    let list = c.args.nodes.now.delegations.list in
    let root : None ≡ parent_of list c.loop-at.at = search rules in
    let top : (is_made_of c.args.revoke.now c.loop-at.at None || is_own c.args.revoke.now c.loop-at.at) ≡ false = search rules in
    at_root c.args.revoke.now list c.args.d c.loop-at.at c.loop-at.invariant root top

pub loop-at-smaller : goal.loop-at-smaller
loop-at-smaller g c =
    let f = c.args.nodes.now.delegations in
    let up : Some c.in-Some.p ≡ parent_of f.list c.loop-at.at = search rules in
    falls c.args.revoke.now f c.args.d c.loop-at.at c.in-Some.p c.requires.sound.forest c.loop-at.invariant up

pub loop-at-preserved : goal.loop-at-preserved
loop-at-preserved g c =
    let f = c.args.nodes.now.delegations in
    let up : Some c.in-Some.p ≡ parent_of f.list c.loop-at.at = search rules in
    let top : (is_made_of c.args.revoke.now c.loop-at.at (Some c.in-Some.p) || is_own c.args.revoke.now c.loop-at.at) ≡ false = search rules in
    upward c.args.revoke.now f c.args.d c.loop-at.at c.in-Some.p c.requires.sound.forest c.loop-at.invariant up top (search rules)
