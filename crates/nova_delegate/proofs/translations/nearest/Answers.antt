use Rattle.std.proofs.Common.{rules, ◌≡◌, ◌∙◌, false}
use Rattle.std.specs.Prelude.{Some, None, ◌==◌}
use Rattle.nova_model.specs.Delegations.{parent_of}
use Rattle.law_forest.proofs.Lines.{parent_facts}
use Rattle.law_forest.proofs.Members.{in_from_contains}
use Rattle.nova_delegate.proofs.Upward.{at_start, at_root, upward}
use Rattle.nova_delegate.proofs.translations.nearest.Goals as goal

pub loop-at-init : goal.loop-at-init
loop-at-init g c =
    at_start c.args.nodes.now.delegations.list c.args.d c.args.pd (in_from_contains c.args.nodes.now.delegations.list c.args.d c.requires.there) c.requires.placed

pub returns-in_err-at-clause-found : goal.returns-in_err-at-clause-found
returns-in_err-at-clause-found g c =
    let list = c.args.nodes.now.delegations.list in
    let root : parent_of list c.loop-at.at ≡ None = search rules in
    let gives : c.from_residual.result ≡ None = search rules in
    let other : (c.loop-at.at.pd == c.args.pd) ≡ false = search rules in
    gives ∙ at_root c.args.nodes.now.delegations c.args.d c.loop-at.at c.args.pd c.requires.sound.forest c.loop-at.invariant other root

pub loop-at-smaller : goal.loop-at-smaller
loop-at-smaller g c =
    let f = c.args.nodes.now.delegations in
    let up : parent_of f.list c.loop-at.at ≡ Some c.in_ok-at.at = search rules in
    (parent_facts f c.loop-at.at c.in_ok-at.at c.requires.sound.forest c.loop-at.invariant.there up).within.older

pub loop-at-preserved : goal.loop-at-preserved
loop-at-preserved g c =
    let f = c.args.nodes.now.delegations in
    let up : parent_of f.list c.loop-at.at ≡ Some c.in_ok-at.at = search rules in
    let other : (c.loop-at.at.pd == c.args.pd) ≡ false = search rules in
    upward f c.args.d c.loop-at.at c.in_ok-at.at c.args.pd c.requires.sound.forest c.loop-at.invariant other up c.in_ok-at.ensures.placed
