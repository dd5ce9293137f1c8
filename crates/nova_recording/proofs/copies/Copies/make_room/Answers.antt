use Rattle.std.proofs.Common.{rules, ◌<◌, ◌≤◌, ◌/◌, length}
use Rattle.nova_recording.proofs.Copied.{some_no_larger, within_most}
use Rattle.nova_recording.proofs.copies.Copies.make_room.Goals as goal

pub invariant_of-self : goal.invariant_of-self
invariant_of-self c =
    let more : c.self.inside.each ≤ c.max-self-inside.result = search rules in
    let some : 0 < c.max-self-inside.result = search rules in
    let few : length c.make_room-spacing.new.kept.items ≤ c.self.inside.most / c.max-self-inside.result = search rules in (
      some,
      (
        few,
        some_no_larger c.self.inside.each c.max-self-inside.result c.make_room-spacing.new.kept.items c.self.inside.kept.items more
            c.make_room-spacing.ensures.among c.self.invariant.1.1,
      ),
    )

pub returns-in-Some-clause-within : goal.returns-in-Some-clause-within
returns-in-Some-clause-within c =
    let more : c.self.inside.each ≤ c.max-self-inside.result = search rules in
    let some : 0 < c.max-self-inside.result = search rules in
    let few : length c.make_room-spacing.new.kept.items ≤ c.self.inside.most / c.max-self-inside.result = search rules in
    within_most c.max-self-inside.result c.self.inside.most c.make_room-spacing.new.kept.items some few
    (some_no_larger c.self.inside.each c.max-self-inside.result c.make_room-spacing.new.kept.items c.self.inside.kept.items more
    c.make_room-spacing.ensures.among c.self.invariant.1.1)
