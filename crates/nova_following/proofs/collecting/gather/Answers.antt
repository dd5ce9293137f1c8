use Rattle.std.proofs.Common.{ap, ◌∙◌}
use Rattle.nova_order.specs.Blocks.{turns}
use Rattle.nova_following.specs.Follows.{followed}
use Rattle.nova_following.proofs.Tracks.{found_so, side_so, takable_so}
use Rattle.nova_following.proofs.collecting.gather.Goals as goal

pub close-requires : goal.close-requires
close-requires c =
    takable_so c.args.kernel.now.state c.requires.begins (turns c.args.order.now.blocks) c.args.guest c.follow.new.trail
    (c.in_ok-follow.ensures.passed.trail ∙ ap (followed c.args.guest c.args.kernel.now.state (turns c.args.order.now.blocks)) c.new-trail.ensures)

pub returns-clause-side : goal.returns-clause-side
returns-clause-side c =
    found_so c.args.kernel.now.state c.requires.begins (turns c.args.order.now.blocks) c.args.guest c.virtual_cpus_are_guests_alone_from_their_birth.ensures
    c.follow.new.trail c.in_ok-close.field-0
    (c.in_ok-follow.ensures.passed.trail ∙ ap (followed c.args.guest c.args.kernel.now.state (turns c.args.order.now.blocks)) c.new-trail.ensures)
    c.in_ok-close.ensures

pub returns-clause-comparable : goal.returns-clause-comparable
returns-clause-comparable c = side_so c.args.kernel.now.state (turns c.args.order.now.blocks) c.args.guest c.requires.begins c.in_ok-close.field-0 (returns-clause-side c)
