use Rattle.std.proofs.Common.{rules, ◌∙◌, ap, sym, length}
use Rattle.nova_trace.specs.Traces.{events_of}
use Rattle.nova_trace.proofs.EntryLemmas.{none}
use Rattle.nova_trace.proofs.trace.Trace.with_capacity.Goals as goal

pub returns-clause-items : goal.returns-clause-items
returns-clause-items c = ap events_of c.in_ok-entries.ensures.items ∙ none

pub invariant_of-result : goal.invariant_of-result
invariant_of-result c = (sym (ap length (returns-clause-items c)), search rules)
