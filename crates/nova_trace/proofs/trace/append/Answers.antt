use Rattle.std.proofs.Common.{◌∙◌, ap}
use Rattle.nova_trace.specs.Traces.{events_of}
use Rattle.nova_trace.proofs.EntryLemmas.{events_push}
use Rattle.nova_trace.proofs.trace.append.Goals as goal

pub returns-clause-events : goal.returns-clause-events
returns-clause-events c = ap events_of c.push_reserved.ensures.items ∙ events_push c.args.entries.now.items (record { event = c.args.event; count = c.args.count })
