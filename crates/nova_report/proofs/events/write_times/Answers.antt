use Rattle.std.proofs.Common.{rules, ◌≡◌, ◌∙◌, ◌++◌, ◌+◌, ◌-◌, ◌<◌, ap, sym, replicate, List, ℕ}
use Rattle.nova_report.specs.Report.{event_line, lines_from}
use Rattle.nova_report.proofs.EventLemmas.{line_more}
use Rattle.nova_report.proofs.events.write_times.Goals as goal

pub loop-i-preserved : goal.loop-i-preserved
loop-i-preserved c =
    let i = c.loop-i.i in
    let more : i < c.args.count = search rules in
    let wrote : c.write_line.new.out.items ≡ c.loop-i.out.items ++ event_line (c.args.place + i + 1, c.args.event.now) = search rules in
    ap (λ (ls : List ℕ). ls ++ lines_from (c.args.place + (i + 1) + 1) (replicate (c.args.count - (i + 1)) c.args.event.now)) wrote
    ∙ sym (line_more c.loop-i.out.items c.args.place i c.args.count c.args.event.now more c.requires.told)
    ∙ c.loop-i.invariant
