use Rattle.std.proofs.Common.{sym, subst}
use Rattle.nova_model.specs.State.{KernelState}
use Rattle.nova_recording.specs.Recordings.{IsAt}
use Rattle.nova_recording.proofs.Copied.{more_kept, some_kept}
use Rattle.nova_recording.proofs.recording.Recording.keep.Goals as goal

pub invariant_of-self : goal.invariant_of-self
invariant_of-self c =
    let k = c.self.inside.opening.state in
    let events = c.self.inside.events.items in (
      c.self.invariant.0,
      (
        c.self.invariant.1.0,
        (some_kept k events c.make_room.new.self.kept c.self.inside.copies.kept c.make_room.ensures.among c.self.invariant.1.1.0, c.make_room.ensures.within),
      ),
    )

pub invariant_of-self-in_err-kernel : goal.invariant_of-self-in_err-kernel
invariant_of-self-in_err-kernel c =
    let k = c.self.inside.opening.state in
    let events = c.self.inside.events.items in (
      c.self.invariant.0,
      (
        c.self.invariant.1.0,
        (some_kept k events c.make_room.new.self.kept c.self.inside.copies.kept c.make_room.ensures.among c.self.invariant.1.1.0, c.make_room.ensures.within),
      ),
    )

pub invariant_of-self-2 : goal.invariant_of-self-2
invariant_of-self-2 c =
    let k = c.self.inside.opening.state in
    let events = c.self.inside.events.items in
    let before = some_kept k events c.make_room.new.self.kept c.self.inside.copies.kept c.make_room.ensures.among c.self.invariant.1.1.0 in
    let here = subst (λ (s : KernelState). IsAt k events c.self.inside.turn s) (sym c.in_ok-kernel.ensures.state) c.self.invariant.1.0 in (
      c.self.invariant.0,
      (
        c.self.invariant.1.0,
        (more_kept k events c.make_room.new.self.kept c.add.new.self.kept _ c.add.ensures.more before here, c.add.ensures.within),
      ),
    )
