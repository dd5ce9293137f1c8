use Rattle.std.proofs.Common.{◌≡◌, ◌∙◌, ap}
use Rattle.nova_kernel.specs.Views.{KernelView}
use Rattle.nova_recording.specs.Copies.{CopiesView}
use Rattle.nova_recording.specs.Recordings.{order_of}
use Rattle.nova_recording.proofs.Copied.{none_kept, none_within}
use Rattle.nova_recording.proofs.Turns.{are_turns, at_start}
use Rattle.nova_recording.proofs.recording.Recording.new.Goals as goal

pub invariant_of-result : goal.invariant_of-result
invariant_of-result c =
    let k = c.args.run.opening.state in
    let events = c.in-Ok.field-0.events.items in
    let same : order_of events ≡ c.requires.order =
    ap order_of (c.in-Ok.ensures.events ∙ c.requires.finished.trace) ∙ c.a_trace_has_an_event_a_turn.ensures.processors k c.requires.order c.requires.no_idle in (
      are_turns k events c.requires.order same c.requires.processors c.requires.few,
      (
        at_start k c.new.result.kernel.state events (ap (λ (v : KernelView). v.state) c.new.ensures ∙ c.in-Ok.ensures.kernel),
        (none_kept k events c.none.result.kept (ap (λ (v : CopiesView). v.kept) c.none.ensures), none_within c.none.result c.none.ensures),
      ),
    )
