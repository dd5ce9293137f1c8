use Rattle.std.proofs.Common.{rules, ◌+◌}
use Rattle.nova_report.proofs.EventLemmas.{untold}
use Rattle.nova_report.proofs.events.write_entry.Goals as goal

pub returns-then-is_silent : goal.returns-then-is_silent
returns-then-is_silent c = untold c.args.out.now.items (c.args.place + 1) c.args.entry.now.count c.args.entry.now.event (search rules)
