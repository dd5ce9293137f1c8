use Rattle.std.proofs.Common.{rules, arith, ◌<◌, length}
use Rattle.nova_report.specs.Summary.{is_counted}
use Rattle.nova_report.proofs.CountLemmas.{at_place, count_few, no_entry}
use Rattle.nova_trace.proofs.Left.{blank}
use Rattle.nova_report.proofs.bench.count_all.Goals as goal

pub overflow_add-count : goal.overflow_add-count
overflow_add-count c =
    let more : c.loop-entry.entry-index < length c.entries-entries.result.now = search rules in
    let at = at_place (is_counted c.args.counted) c.entries-entries.result.now c.loop-entry.entry-index blank more in
    let own = c.count_in-count.ensures in
    let all = c.loop-entry.invariant in
    let few = c.entries-entries.ensures.few in
    let most = count_few (is_counted c.args.counted) c.args.trace.now.items in
    omega (arith, at, own, all, few, most)

pub loop-entry-preserved : goal.loop-entry-preserved
loop-entry-preserved c =
    let more : c.loop-entry.entry-index < length c.entries-entries.result.now = search rules in
    let at = at_place (is_counted c.args.counted) c.entries-entries.result.now c.loop-entry.entry-index blank more in
    let own = c.count_in-count.ensures in
    let all = c.loop-entry.invariant in
    omega (arith, at, own, all)

pub returns-clause-count : goal.returns-clause-count
returns-clause-count c =
    let none = no_entry (is_counted c.args.counted) c.entries-entries.result.now c.loop-entry.entry-index (search rules) in
    let all = c.loop-entry.invariant in
    omega (arith, none, all)

pub returns-clause-few : goal.returns-clause-few
returns-clause-few c = let is = returns-clause-count c in let most = count_few (is_counted c.args.counted) c.args.trace.now.items in omega (arith, is, most)
