use Rattle.std.proofs.Common.{rules, ◌≡◌, sym, true, false}
use Rattle.nova_report.specs.Summary.{is_counted}
use Rattle.nova_report.proofs.CountLemmas.{all_counted, none_counted}
use Rattle.nova_report.proofs.bench.count_in.Goals as goal

pub returns-then-is_counted : goal.returns-then-is_counted
returns-then-is_counted c =
    let is : is_counted c.args.counted c.args.entry.now.event ≡ true = search rules in
    sym (all_counted (is_counted c.args.counted) c.args.entry.now.count c.args.entry.now.event is)

pub returns-else-is_counted : goal.returns-else-is_counted
returns-else-is_counted c =
    let is : is_counted c.args.counted c.args.entry.now.event ≡ false = search rules in
    sym (none_counted (is_counted c.args.counted) c.args.entry.now.count c.args.entry.now.event is)
