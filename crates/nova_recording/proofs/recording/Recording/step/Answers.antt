use Rattle.std.proofs.Common.{rules, ◌≡◌, ◌<◌, length}
use Rattle.std.specs.Prelude.{Some, slice_get}
use Rattle.nova_recording.proofs.Turns.{is_entry, is_next}
use Rattle.nova_recording.proofs.recording.Recording.step.Goals as goal

pub invariant_of-self-2 : goal.invariant_of-self-2
invariant_of-self-2 c =
    let k = c.self.inside.opening.state in
    let events = c.self.inside.events.items in
    let n = c.self.inside.turn in
    let more : n < length events = search rules in
    let there : slice_get events n ≡ Some c.index.result.now = is_entry events n c.index.result.now more c.index.ensures in (
      c.self.invariant.0,
      (
        is_next k c.self.inside.preview.kernel.state c.turn.new.self.kernel.state events n c.index.result.now c.in_ok-turn.field-0 c.self.invariant.1.0 there more
            c.in_ok-turn.ensures.state c.in_ok-turn.ensures.counted c.turn.ensures.cpus,
        c.self.invariant.1.1,
      ),
    )
