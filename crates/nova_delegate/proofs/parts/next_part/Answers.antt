use Rattle.std.proofs.Common.{◌∙◌, sym, ap, ℕ}
use Rattle.nova_model.specs.Transfers.{child_of, judged}
use Rattle.law_forest.proofs.Transfers.{next_facts}
use Rattle.nova_delegate.specs.Parts.{busy_by}
use Rattle.nova_delegate.proofs.Children.{child_is_placed, judged_ready, parent_there}
use Rattle.nova_delegate.proofs.parts.next_part.Goals as goal

pub child_of-child-requires-clause-left : goal.child_of-child-requires-clause-left
child_of-child-requires-clause-left g c = (next_facts c.args.nodes.now.delegations.list c.args.job.now c.in-Some.source (sym c.next_source.ensures.found ∙ c.in-Some.is)).left

pub judged-requires-clause-placed : goal.judged-requires-clause-placed
judged-requires-clause-placed g c =
    child_is_placed c.args.nodes.now.delegations c.args.job.now c.in-Some.source c.child_of-child.result c.next.result c.requires.job c.in-Some.ensures.placed
    (sym c.next_source.ensures.found ∙ c.in-Some.is) c.child_of-child.ensures

pub judged-requires-clause-parent : goal.judged-requires-clause-parent
judged-requires-clause-parent g c =
    parent_there c.args.nodes.now.delegations c.args.job.now c.in-Some.source c.child_of-child.result c.next.result c.next_source.ensures.sound.forest
    (sym c.next_source.ensures.found ∙ c.in-Some.is) c.child_of-child.ensures

pub returns-in-Some-clause-child : goal.returns-in-Some-clause-child
returns-in-Some-clause-child g c =
    judged_ready (busy_by g.G.Guarded.revoke c.args.revokes.now c.args.nodes.now.delegations.list) c.args.nodes.now.delegations c.args.job.now c.in-Some.source
    c.next_source.ensures.sound c.requires.job c.in-Some.ensures.placed (sym c.next_source.ensures.found ∙ c.in-Some.is) c.judged.result
    (c.judged.ensures ∙
    ap (judged (busy_by g.G.Guarded.revoke c.args.revokes.now c.args.nodes.now.delegations.list) c.args.nodes.now.delegations.list)
    (c.child_of-child.ensures ∙ ap (λ (n : ℕ). child_of c.args.job.now n c.in-Some.source) c.next.ensures.next))
