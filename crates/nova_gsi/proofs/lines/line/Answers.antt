use Rattle.std.proofs.Common.{rules, arith, ◌<◌, ◌≤◌, ◌+◌, ◌∙◌, ap, sym, drop, length, replicate, slice_index_or, List}
use Rattle.nova_model.specs.declared.event.Event.{Event}
use Rattle.nova_trace.specs.Traces.{events_of}
use Rattle.nova_trace.proofs.Left.{blank, events_at, length_at, none_left}
use Rattle.nova_gsi.specs.declared.lines.Seen.{Seen}
use Rattle.nova_gsi.specs.Passed.{seen_all}
use Rattle.nova_gsi.proofs.Passing.{seen_append, seen_line, told}
use Rattle.nova_gsi.proofs.lines.line.Goals as goal

pub see_entry-seen-requires-clause-clock : goal.see_entry-seen-requires-clause-clock
see_entry-seen-requires-clause-clock c =
    let more : c.loop-entry.entry-index < length c.entries-entries.result.now = search rules in
    let at = length_at c.entries-entries.result.now c.loop-entry.entry-index blank more in
    let all = c.loop-entry.invariant.clock in
    let few = c.entries-entries.ensures.few in
    omega (arith, at, all, few)

pub see_entry-seen-requires-clause-fired : goal.see_entry-seen-requires-clause-fired
see_entry-seen-requires-clause-fired c =
    let more : c.loop-entry.entry-index < length c.entries-entries.result.now = search rules in
    let at = length_at c.entries-entries.result.now c.loop-entry.entry-index blank more in
    let all = c.loop-entry.invariant.fired in
    let few = c.entries-entries.ensures.few in
    omega (arith, at, all, few)

pub loop-entry-preserved : goal.loop-entry-preserved
loop-entry-preserved c =
    let s = c.args.source.now in
    let n = c.args.number in
    let entries = c.entries-entries.result.now in
    let i = c.loop-entry.entry-index in
    let more : i < length entries = search rules in
    let at = length_at entries i blank more in
    let seen = c.see_entry-seen.ensures in
    let clocks = c.loop-entry.invariant.clock in
    let firings = c.loop-entry.invariant.fired in
    let clock = seen.clock in
    let fired = seen.fired in record {
      left =
          ap (λ (x : Seen). seen_all s n x (events_of (drop (i + 1) entries))) seen.seen
          ∙ sym (ap (λ (es : List Event). seen_all s n c.loop-entry.seen es) (events_at entries i blank more) ∙ seen_append s n c.loop-entry.seen (replicate (slice_index_or entries i blank).count (slice_index_or entries i blank).event) (events_of (drop (i + 1) entries)))
          ∙ c.loop-entry.invariant.left;
      clock = omega (arith, at, clocks, clock);
      fired = omega (arith, at, firings, fired);
    }

pub returns : goal.returns
returns c =
    let s = c.args.source.now in
    let n = c.args.number in
    let past : length c.entries-entries.result.now ≤ c.loop-entry.entry-index = search rules in
    let last = ap (λ (es : List Event). seen_all s n c.loop-entry.seen es) (none_left c.entries-entries.result.now c.loop-entry.entry-index past) in
    ap (told s n) (sym last ∙ c.loop-entry.invariant.left) ∙ seen_line s n c.args.trace.now.items
