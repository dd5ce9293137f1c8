use Rattle.std.proofs.Common.{rules, arith, ◌∙◌, ◌++◌, ◌+◌, ◌<◌, ap, sym, List, ℕ, length, drop, slice_index_or}
use Rattle.nova_trace.specs.Traces.{events_of}
use Rattle.nova_report.specs.Report.{lines_from}
use Rattle.nova_report.proofs.EventLemmas.{at_entry, no_more}
use Rattle.nova_trace.proofs.Left.{blank}
use Rattle.nova_report.proofs.events.write_events.Goals as goal

pub write_entry-requires : goal.write_entry-requires
write_entry-requires c =
    let more : c.loop-entry.entry-index < length c.entries-entries.result.now = search rules in
    let at = at_entry c.entries-entries.result.now c.loop-entry.entry-index blank more in
    let all = c.loop-entry.invariant.1 in
    let few = c.entries-entries.ensures.few in
    record { few = omega (arith, at.len, all, few) }

pub overflow_add-place : goal.overflow_add-place
overflow_add-place c =
    let more : c.loop-entry.entry-index < length c.entries-entries.result.now = search rules in
    let at = at_entry c.entries-entries.result.now c.loop-entry.entry-index blank more in
    let all = c.loop-entry.invariant.1 in
    let few = c.entries-entries.ensures.few in
    omega (arith, at.len, all, few)

pub loop-entry-preserved : goal.loop-entry-preserved
loop-entry-preserved c =
    let entries = c.entries-entries.result.now in
    let i = c.loop-entry.entry-index in
    let place = c.loop-entry.place in
    let more : i < length entries = search rules in
    let at = at_entry entries i blank more in
    let all = c.loop-entry.invariant.1 in (
      ap (λ (ls : List ℕ). ls ++ lines_from (place + (slice_index_or entries i blank).count + 1) (events_of (drop (i + 1) entries))) (search rules)
          ∙ sym (at.lines c.loop-entry.out.items place)
          ∙ c.loop-entry.invariant.0,
      omega (arith, at.len, all),
    )

pub returns : goal.returns
returns c = sym (no_more c.loop-entry.out.items (c.loop-entry.place + 1) c.entries-entries.result.now c.loop-entry.entry-index (search rules)) ∙ c.loop-entry.invariant.0
